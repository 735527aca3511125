-- How a call ends: it is refused at the first step that refuses, and nothing is written, or its output is written,
-- whole or broken off.
use Rattle.std.specs.Prelude.{ℕ, ◌≡◌, ◌<◌, List, length, take}
use Rattle.rh_args.specs.Forms.{IsUsagePlace}
use Rattle.rh_report.specs.declared.status.Status.{Status}
use Rattle.rh_report.specs.declared.status.Status.TheVariants.{Done, Usage, WriteFault}
use Rattle.rh_top.specs.Call.{Reads, Writes, WriteFails, Wrote, WroteNothing}
use Rattle.rh_top.specs.Outputs.{IsMade}
use Rattle.rh_top.specs.Refusals.{IsRefused}
use Rattle.rh_top.specs.Requests.{Request}

-- a call whose words ask for a request
abbrev pub Ends : Reads → Writes → Request → Status → Type 0
Ends reads writes request Done = (text : List ℕ) × IsMade reads request text × Wrote writes text
Ends reads writes request (WriteFault count) =
    (text : List ℕ) × IsMade reads request text × Wrote writes (take count text) × (count < length text) × WriteFails writes
Ends reads writes request status = IsRefused reads request status × WroteNothing writes

-- a call whose words are not accepted
pub record EndsAsUsage (words : List (List ℕ)) (writes : Writes) (status : Status) : Type 0 where
  pub place : ℕ
  pub is : status ≡ Usage place
  pub longest : IsUsagePlace words place
  pub unwritten : WroteNothing writes
