use Rattle.std.proofs.Common.{◌≡◌, List, [], ◌∷◌, ℕ, take, get_or, false, true, reverse, refl, sym, subst, arith, rules}
use Rattle.std.proofs.lemmas.List.{take_more, take_all}
use Rattle.rh_grammar.specs.declared.grammar.Symbol.{Symbol}
use Rattle.rh_grammar.specs.declared.grammar.Symbol.TheVariants.{Rule}
use Rattle.rh_grammar.specs.Parsing.{IsParsed, Any, Takes, Finishes}
use Rattle.rh_grammar.proofs.Steps.{parsed_none, fault_here}
use Rattle.rh_grammar.proofs.parser.parse.Goals as goal

pub loop-place-init : goal.loop-place-init
loop-place-init c = λ e d known.
    let start = c.args.rule in
    let stack : c.push.new.self.items ≡ Rule start ∷ [] = search rules in
    subst (λ (s : List Symbol). IsParsed c.args.grammar.now e start Any [] (reverse s) c.new-taken.result.items) (sym stack)
    (subst (λ (l : List ℕ). IsParsed c.args.grammar.now e start Any [] (Rule start ∷ []) l) (sym c.new-taken.ensures.items) (parsed_none c.args.grammar.now e d start known))

pub returns-then-not-branch-clause-fault : goal.returns-then-not-branch-clause-fault
returns-then-not-branch-clause-fault c =
    let e = c.requires.0 in
    let d = c.requires.1 in
    let place = c.loop-place.place in
    let tokens = c.args.tokens.now in
    let takes : Takes c.args.grammar.now (get_or tokens place 0) c.loop-place.stack.items c.loop-place.taken.items false c.take_token.new.stack.items c.take_token.new.taken.items = rw c.if-not-branch.true at c.in_ok-take_token.ensures in
    let stuck = takes e c.args.rule (take place tokens) d (c.loop-place.invariant e d c.requires.2) in
    fault_here c.args.grammar.now e d c.args.rule tokens place (get_or tokens place 0) _ _ c.loop-place-test.true refl stuck.0 stuck.1

pub loop-place-preserved : goal.loop-place-preserved
loop-place-preserved c = λ e d known.
    let place = c.loop-place.place in
    let tokens = c.args.tokens.now in
    let takes : Takes c.args.grammar.now (get_or tokens place 0) c.loop-place.stack.items c.loop-place.taken.items true c.take_token.new.stack.items c.take_token.new.taken.items = rw c.if-not-branch.false at c.in_ok-take_token.ensures in
    subst (λ (l : List ℕ). IsParsed c.args.grammar.now e c.args.rule Any l (reverse c.take_token.new.stack.items) c.take_token.new.taken.items) (sym (take_more tokens place 0 c.loop-place-test.true))
    (takes e c.args.rule (take place tokens) d (c.loop-place.invariant e d known))

pub returns-clause-fault : goal.returns-clause-fault
returns-clause-fault c =
    let e = c.requires.0 in
    let d = c.requires.1 in
    let tokens = c.args.tokens.now in
    let finishes : Finishes c.args.grammar.now c.loop-place.stack.items c.loop-place.taken.items false c.finish.new.taken.items = rw c.if-branch.false at c.in_ok-finish.ensures in
    let whole : take c.loop-place.place tokens ≡ tokens = take_all _ tokens (omega arith) in
    finishes e c.args.rule tokens d (subst (λ (l : List ℕ). IsParsed c.args.grammar.now e c.args.rule Any l (reverse c.loop-place.stack.items) c.loop-place.taken.items) whole (c.loop-place.invariant e d c.requires.2))
