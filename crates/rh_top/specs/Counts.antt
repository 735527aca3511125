-- The counted quantities: when they are within their limits, and with which status they are refused. Memory may run out.
use Rattle.std.specs.Prelude.{◌≤◌, List}
use Rattle.rh_admit.specs.declared.all.AdmitFault.{AdmitFault}
use Rattle.rh_admit.specs.declared.all.AdmitFault.TheVariants.{TooManyTerms, NoMemory as NoAdmitMemory}
use Rattle.rh_admit.specs.Rules.{IsFirstExcess}
use Rattle.rh_audit.specs.Audit.{HaveFewTerms}
use Rattle.rh_il.specs.declared.program.Proc.{Proc}
use Rattle.rh_layout.specs.declared.laid.LayoutFault.{LayoutFault}
use Rattle.rh_layout.specs.declared.laid.LayoutFault.TheVariants.{TooManyFacts, TooManyWords, NoMemory as NoLayoutMemory}
use Rattle.rh_layout.specs.Bits.{word_count}
use Rattle.rh_layout.specs.Layout.{HasFewFacts, IsCrowded, IsTooWide}
use Rattle.rh_list.specs.Each.{Each}
use Rattle.rh_report.specs.declared.status.Large.TheVariants.{Facts, Terms, Words}
use Rattle.rh_report.specs.declared.status.Status.{Status}
use Rattle.rh_report.specs.declared.status.Status.TheVariants.{TooLarge, NoMemory}
use Rattle.rh_rule.specs.RuleFiles.{Rules}

-- ---- the terms of the obligations

-- the rules are refused: this one is the first with an obligation of more terms
abbrev pub RefusesTerms : Rules → Status → Type 0
RefusesTerms file (TooLarge (Terms rule count)) = IsFirstExcess file.schemas file.rules rule count
RefusesTerms file NoMemory = Unit {0}
RefusesTerms file _ = ⊥

-- the status of rules that are not ruled on
abbrev pub of_admit : AdmitFault → Status
of_admit (TooManyTerms rule count) = TooLarge (Terms rule count)
of_admit NoAdmitMemory = NoMemory

-- ---- the facts and the words

-- no procedure has more than 65,536 facts, and all edges together have no more than 2,097,152 words
pub record HaveRoom (file : Rules) (procs : List Proc) : Type 0 where
  pub few_facts : Each (HasFewFacts file.schemas) procs
  pub few_words : word_count file.schemas procs ≤ 2097152

-- there is no room: this procedure is the first with more facts, or there are more words
abbrev pub RefusesFacts : Rules → List Proc → Status → Type 0
RefusesFacts file procs (TooLarge (Facts proc count)) = IsCrowded file.schemas procs proc count
RefusesFacts file procs (TooLarge (Words count)) = IsTooWide file.schemas procs count
RefusesFacts file procs NoMemory = Unit {0}
RefusesFacts file procs _ = ⊥

-- the status of a program that has no layout
abbrev pub of_layout : LayoutFault → Status
of_layout (TooManyFacts proc count) = TooLarge (Facts proc count)
of_layout (TooManyWords count) = TooLarge (Words count)
of_layout NoLayoutMemory = NoMemory

-- a counted quantity is refused: the terms, or else the facts and the words
pub data RefusesCounts (file : Rules) (procs : List Proc) (status : Status) : Type 0 where
  by_terms : RefusesTerms file status → RefusesCounts file procs status
  by_facts : HaveFewTerms file → RefusesFacts file procs status → RefusesCounts file procs status
