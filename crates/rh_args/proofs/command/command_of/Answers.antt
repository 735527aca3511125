use Rattle.std.proofs.Common.{[], ◌∷◌, refl, sym, ◌∙◌, codes, w64, rules}
use Rattle.std.proofs.lemmas.Int.{to_z-of_z}
use Rattle.rh_args.specs.declared.form.WordForm.TheVariants as forms
use Rattle.rh_args.proofs.Words.{is_text, words_2, words_3, words_4}
use Rattle.rh_args.proofs.command.command_of.Goals as goal

pub returns-in-Opt : goal.returns-in-Opt
returns-in-Opt c =
    ([], refl, words_3 c.args.words.now (codes "opt") forms.Opt (is_text (codes "opt")) forms.File forms.File _ _ _ _ (rw c.in-Opt.is at c.requires) c.index-words-1.is c.as_str.ensures.value c.index-words-2.is c.as_str-in-Opt.ensures.value)

pub returns-in-OptWorkers : goal.returns-in-OptWorkers
returns-in-OptWorkers c =
    let given = c.as_bytes.result.now in
    (given ∷ [], sym c.workers_of.ensures ∙ c.unwrap.ensures, words_4 c.args.words.now (codes "opt") forms.Opt (is_text (codes "opt")) forms.Workers forms.File forms.File _ _ _ _ _ _ (rw c.in-OptWorkers.is at c.requires) c.index-words-1-in-OptWorkers.is c.as_bytes.ensures.value c.index-words-2-in-OptWorkers.is c.as_str-in-OptWorkers.ensures.value c.index-words-3.is c.as_str-in-OptWorkers-2.ensures.value)

pub returns-in-Check : goal.returns-in-Check
returns-in-Check c =
    words_2 c.args.words.now (codes "check") forms.Check (is_text (codes "check")) forms.File _ _ (rw c.in-Check.is at c.requires) c.index-words-1-in-Check.is c.as_str-in-Check.ensures.value

pub returns-in-Prove : goal.returns-in-Prove
returns-in-Prove c =
    words_2 c.args.words.now (codes "prove") forms.Prove (is_text (codes "prove")) forms.File _ _ (rw c.in-Prove.is at c.requires) c.index-words-1-in-Prove.is c.as_str-in-Prove.ensures.value

pub returns-in-Audit : goal.returns-in-Audit
returns-in-Audit c =
    words_3 c.args.words.now (codes "audit") forms.Audit (is_text (codes "audit")) forms.File forms.File _ _ _ _ (rw c.in-Audit.is at c.requires) c.index-words-1-in-Audit.is c.as_str-in-Audit.ensures.value c.index-words-2-in-Audit.is c.as_str-in-Audit-2.ensures.value

pub returns-in-Run : goal.returns-in-Run
returns-in-Run c =
    ([], c.as_bytes-in-Run.result.now, refl, words_3 c.args.words.now (codes "run") forms.Run (is_text (codes "run")) forms.File forms.Argument _ _ _ _ (rw c.in-Run.is at c.requires) c.index-words-1-in-Run.is c.as_str-in-Run.ensures.value c.index-words-2-in-Run.is c.as_bytes-in-Run.ensures.value, rw (to_z-of_z w64 c.unwrap-in-Run.result (search rules)) (sym c.argument.ensures ∙ c.unwrap-in-Run.ensures))

pub returns-in-RunSteps : goal.returns-in-RunSteps
returns-in-RunSteps c =
    (c.as_bytes-in-RunSteps.result.now ∷ [], c.as_bytes-in-RunSteps-2.result.now, sym c.steps_of.ensures ∙ c.unwrap-in-RunSteps.ensures, words_4 c.args.words.now (codes "run") forms.Run (is_text (codes "run")) forms.Steps forms.File forms.Argument _ _ _ _ _ _ (rw c.in-RunSteps.is at c.requires) c.index-words-1-in-RunSteps.is c.as_bytes-in-RunSteps.ensures.value c.index-words-2-in-RunSteps.is c.as_str-in-RunSteps.ensures.value c.index-words-3-in-RunSteps.is c.as_bytes-in-RunSteps-2.ensures.value, rw (to_z-of_z w64 c.unwrap-in-RunSteps-2.result (search rules)) (sym c.argument-in-RunSteps.ensures ∙ c.unwrap-in-RunSteps-2.ensures))

pub returns-in-Gen : goal.returns-in-Gen
returns-in-Gen c =
    ([], c.as_bytes-in-Gen.result.now, refl, words_2 c.args.words.now (codes "gen") forms.Gen (is_text (codes "gen")) forms.Count _ _ (rw c.in-Gen.is at c.requires) c.index-words-1-in-Gen.is c.as_bytes-in-Gen.ensures.value, sym c.count_of.ensures ∙ c.unwrap-in-Gen.ensures)

pub returns-in-GenWorkers : goal.returns-in-GenWorkers
returns-in-GenWorkers c =
    (c.as_bytes-in-GenWorkers.result.now ∷ [], c.as_bytes-in-GenWorkers-2.result.now, sym c.workers_of-in-GenWorkers.ensures ∙ c.unwrap-in-GenWorkers.ensures, words_3 c.args.words.now (codes "gen") forms.Gen (is_text (codes "gen")) forms.Workers forms.Count _ _ _ _ (rw c.in-GenWorkers.is at c.requires) c.index-words-1-in-GenWorkers.is c.as_bytes-in-GenWorkers.ensures.value c.index-words-2-in-GenWorkers.is c.as_bytes-in-GenWorkers-2.ensures.value, sym c.count_of-in-GenWorkers.ensures ∙ c.unwrap-in-GenWorkers-2.ensures)
