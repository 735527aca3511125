use Rattle.std.proofs.Common.{◌≡◌, Some, rules}
use Rattle.rh_grammar.specs.declared.grammar.Symbol.TheVariants.{Token}
use Rattle.rh_grammar.specs.Parsing.{IsTop}
use Rattle.rh_grammar.proofs.Stacks.{parsed_taken, stuck_on_top, not_on_top}
use Rattle.rh_grammar.proofs.parser.take_token.Goals as goal

pub returns-then-eq : goal.returns-then-eq
returns-then-eq c = λ e start tokens d parsed.
    let on_top : IsTop c.settle.new.stack.items (Some (Token c.args.class)) = search rules in
    parsed_taken _ e d start c.args.class tokens c.settle.new.stack.items _ c.settle.new.stack.len _ on_top c.settle.new.stack.ok.0 c.pop.ensures.rest (c.in_ok-settle.ensures.parsed e start tokens d parsed)

pub returns : goal.returns
returns c = λ e start tokens d parsed.
    let settled = c.in_ok-settle.ensures in
    let here = settled.parsed e start tokens d parsed in
    let on_top : IsTop c.settle.new.stack.items c.top.result = rw c.as_slice.ensures.value at c.top.ensures in
    let differs : c.top.result ≡ Some (Token c.args.class) → ⊥ = search rules in
    (here, stuck_on_top _ e d start c.args.class tokens c.settle.new.stack.items _ (not_on_top c.settle.new.stack.items _ _ on_top differs) settled.stopped here)
