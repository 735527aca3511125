use Rattle.std.proofs.Common.{◌≡◌, ◌≤◌, max, drop}
use Rattle.rh_args.specs.Forms.{is_shaped, farthest, texts}
use Rattle.rh_args.proofs.shape.shape_of.Given as goal

abbrev pub invariant-loop-shape : goal.invariant-loop-shape
invariant-loop-shape l = record {
  so_far : max l.place (farthest (drop l.shape-index l.shapes) (texts l.words)) ≡ farthest l.shapes (texts l.words);
  none_so_far : is_shaped (drop l.shape-index l.shapes) (texts l.words) ≡ is_shaped l.shapes (texts l.words);
  small : l.place ≤ 4;
}
