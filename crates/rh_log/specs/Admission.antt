-- Rulings on rules.
use Rattle.rh_rule.specs.declared.rule.Ruling.{Ruling}
use Rattle.rh_rule.specs.declared.rule.Ruling.TheVariants.{Admitted as Proved, Refused as NotProved}
use Rattle.rh_log.specs.declared.log.Admission.{Admission}
use Rattle.rh_log.specs.declared.log.Admission.TheVariants.{Admitted, Refused}

-- the ruling that an admission tells
abbrev pub ruling_of : Admission → Ruling
ruling_of (Admitted logs) = Proved
ruling_of (Refused obligation classes) = NotProved obligation
