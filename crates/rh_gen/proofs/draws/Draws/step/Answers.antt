use Rattle.std.proofs.Common.{◌≡◌, ℕ, ◌+◌, ◌*◌, ◌%◌, ◌^◌, arith}
use Rattle.rh_gen.specs.Draws.{next}
use Rattle.rh_gen.proofs.draws.Draws.step.Goals as goal

stepped : (state : ℕ) → ((state * 6364136223846793005) % 2 ^ 64 + 1442695040888963407) % 2 ^ 64 ≡ next state
unfolding next
stepped state = omega arith

pub returns : goal.returns
returns c = stepped c.args.self.now.state
