use Rattle.std.proofs.Common.{refl}
use Rattle.rh_report.specs.declared.status.Part.TheVariants.{Program}
use Rattle.rh_top.specs.Call.{made}
use Rattle.rh_top.specs.Files.{RefusesProgramText, most_bytes}
use Rattle.rh_top.proofs.Refusing.{refused_by_text}
use Rattle.rh_top.proofs.input.made_program.Goals as goal

pub returns-clause-refused : goal.returns-clause-refused
returns-clause-refused c =
    refused_by_text Program most_bytes RefusesProgramText (made c.args.bytes.now) c.args.bytes.now c.spelled_program.result refl c.if-bytes-gt-MOST_BYTES.false c.spelled_program.ensures.refused
