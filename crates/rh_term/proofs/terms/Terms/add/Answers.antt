use Rattle.std.proofs.Common.{◌++◌, ◌∷◌, [], ap, length, ◌∙◌}
use Rattle.rh_term.proofs.Found.{put_last}
use Rattle.rh_term.proofs.Listed.{kept, added}
use Rattle.rh_term.proofs.terms.Terms.add.Goals as goal

pub invariant_of-self-2 : goal.invariant_of-self-2
invariant_of-self-2 c =
    kept _ _ _ _ c.self.view_is (put_last _ _ _ _ c.self.view_is c.in_default.ensures.missing c.in_ok-_new.ensures.keys)
    c.self.invariant c.requires.parts c.keeps_range.ensures c.in_default.ensures.missing c.requires.room

pub returns-clause-ok : goal.returns-clause-ok
returns-clause-ok c =
    let last = put_last c.self.inside.items.keys c.args.self.now c.insert.new.self.keys c.args.term c.self.view_is c.in_default.ensures.missing c.in_ok-_new.ensures.keys in
    added _ _ _ _ (last ∙ ap (λ terms. terms ++ c.args.term ∷ []) c.self.view_is) (c.len-place.ensures.len ∙ ap length c.self.view_is)
