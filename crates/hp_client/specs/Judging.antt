-- What the judge of a workload's answers knows while they come.
use Rattle.std.specs.Prelude.{◌≡◌, length}
use Rattle.hp_client.specs.Tables.{Tried, IsFirstWrong}
use Rattle.hp_client.specs.declared.work.Judged.{Judged}

-- all these answers were counted, and the first wrong one is known
pub record Judges (tried : Tried) (judged : Judged) : Type 0 where
  pub calls : judged.calls ≡ length tried
  pub bad : IsFirstWrong tried judged.bad
