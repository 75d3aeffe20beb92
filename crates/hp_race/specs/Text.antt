-- The one spelling of a race's line.
use Rattle.std.specs.Prelude.{ℕ, ◌+◌, List, [], ◌∷◌, ◌++◌, codes}
use Rattle.std.specs.Fmt.{decimal}
use Rattle.hp_race.specs.declared.line.Race.{Race}
use Rattle.hp_race.specs.declared.line.Verdict.{Verdict}
use Rattle.hp_race.specs.declared.line.Verdict.TheVariants.{Closed, Disagree, Astray, Late}

abbrev pub verdict_text : Verdict → List ℕ
verdict_text Closed = codes "closed"
verdict_text (Disagree position) = codes "disagree " ++ decimal position
verdict_text Astray = codes "astray"
verdict_text Late = codes "late"

-- `VERDICT entries N free F resv R`
abbrev pub race_text : Race → List ℕ
race_text race =
    verdict_text race.verdict
    ++ (codes " entries " ++ (decimal race.entries
    ++ (codes " free " ++ (decimal race.free
    ++ (codes " resv " ++ decimal race.resv)))))

-- `run K`, and that
abbrev pub run_text : (run : ℕ) → Race → List ℕ
run_text run race = codes "run " ++ (decimal run ++ (codes " " ++ race_text race))

abbrev pub run_line : (run : ℕ) → Race → List ℕ
run_line run race = run_text run race ++ 10 ∷ []

-- the lines of races that are numbered from this one on
abbrev pub lines_text : (run : ℕ) → List Race → List ℕ
lines_text run [] = []
lines_text run (race ∷ races) = run_line run race ++ lines_text (run + 1) races
