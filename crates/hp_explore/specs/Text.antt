-- The one spelling of a run's line.
use Rattle.std.specs.Prelude.{ℕ, List, ◌++◌, codes}
use Rattle.std.specs.Fmt.{decimal}
use Rattle.hp_audit.specs.declared.finding.Finding.TheVariants.{Shape, Agree, Place, Size, Count, Used}
use Rattle.hp_explore.specs.declared.line.Finish.{Finish}
use Rattle.hp_explore.specs.declared.line.Finish.TheVariants.{Finished, Stuck, Limit, Found}
use Rattle.hp_explore.specs.declared.line.RunLine.{RunLine}

abbrev pub finish_word : Finish → List ℕ
finish_word Finished = codes "finished"
finish_word Stuck = codes "stuck"
finish_word Limit = codes "limit"
finish_word (Found Shape) = codes "shape"
finish_word (Found Agree) = codes "agree"
finish_word (Found Place) = codes "place"
finish_word (Found Size) = codes "size"
finish_word (Found Count) = codes "count"
finish_word (Found Used) = codes "used"

-- `run K FINISH turns N free F resv R`
abbrev pub run_text : RunLine → List ℕ
run_text line =
    codes "run " ++ (decimal line.run
    ++ (codes " " ++ (finish_word line.finish
    ++ (codes " turns " ++ (decimal line.turns
    ++ (codes " free " ++ (decimal line.free
    ++ (codes " resv " ++ decimal line.resv))))))))
