use Rattle.std.proofs.Common.{refl}
use Rattle.rh_report.specs.declared.status.Part.TheVariants.{Rules}
use Rattle.rh_top.specs.Call.{made}
use Rattle.rh_top.specs.Files.{RefusesRulesText, most_bytes}
use Rattle.rh_top.proofs.Refusing.{refused_by_text}
use Rattle.rh_top.proofs.input.made_rules.Goals as goal

pub returns-clause-refused : goal.returns-clause-refused
returns-clause-refused c =
    refused_by_text Rules most_bytes RefusesRulesText (made c.args.bytes.now) c.args.bytes.now c.spelled_rules.result refl c.if-bytes-gt-MOST_BYTES.false c.spelled_rules.ensures.refused
