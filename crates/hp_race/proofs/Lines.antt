-- Lines of races that are written one by one.
use Rattle.std.proofs.Common.{◌≡◌, ℕ, ◌+◌, ◌<◌, ◌≤◌, List, [], ◌∷◌, ◌++◌, length, length-append, Option, refl, sym, ap}
use Rattle.std.proofs.Common.{subst, ◌∙◌, append_assoc, arith}
use Rattle.std.specs.Prelude.{All, Bool, ◌&&◌, true, false}
use Rattle.std.specs.List.{list_all}
use Rattle.std.specs.Io.KnownBytes.{Appends}
use Rattle.std.proofs.KnownBytes.{Appends-nil, Appends-trans}
use Rattle.std.proofs.lemmas.List.{append-nil}
use Rattle.std.proofs.lemmas.List.Elements.{All-nil, All-push}
use Rattle.std.proofs.lemmas.List.Folds.{list_all-append}
use Rattle.hp_text.specs.declared.script.Script.{Script}
use Rattle.hp_text.specs.Writing.{Wrote}
use Rattle.hp_text.proofs.Writes.{Wrote-behind}
use Rattle.hp_race.specs.declared.line.Race.{Race}
use Rattle.hp_race.specs.Parts.{IsToldBy}
use Rattle.hp_race.specs.Text.{lines_text, run_line}
use Rattle.hp_race.specs.Writing.{WroteRaces, WroteSomeRaces, is_closed}

-- the lines of some races, and one more
lines_more : (n : ℕ) (races : List Race) (race : Race)
    → lines_text n (races ++ race ∷ []) ≡ lines_text n races ++ run_line (n + length races) race
lines_more n [] race =
    let here : n ≡ n + 0 = omega arith in
    append-nil (run_line n race) ∙ ap (λ (k : ℕ). run_line k race) here
lines_more n (r ∷ rs) race =
    let next : n + 1 + length rs ≡ n + length (r ∷ rs) = omega arith in
    ap (λ (t : List ℕ). run_line n r ++ t) (lines_more (n + 1) rs race ∙ ap (λ (k : ℕ). lines_text (n + 1) rs ++ run_line k race) next)
    ∙ sym (append_assoc (run_line n r) (lines_text (n + 1) rs) (run_line (n + length (r ∷ rs)) race))

-- the lines of the first races are written
pub record SoFar (mortal : Bool) (script : Script) (cut : Option ℕ) (run : ℕ) (closed : Bool) (before now : Option (List ℕ)) : Type 0 where
  pub races : List Race
  pub count : length races ≡ run
  pub each : All (IsToldBy mortal script cut) races
  pub wrote : Appends before now (lines_text 0 races)
  pub ends : closed ≡ list_all is_closed races

pub nothing_yet : (mortal : Bool) (script : Script) (cut : Option ℕ) (o : Option (List ℕ)) → SoFar mortal script cut 0 true o o
nothing_yet mortal script cut o =
    record { races = []; count = refl; each = All-nil (IsToldBy mortal script cut); wrote = Appends-nil o; ends = refl }

-- the text of one more
text_more : (run : ℕ) (races : List Race) (race : Race) → length races ≡ run
    → lines_text 0 (races ++ race ∷ []) ≡ lines_text 0 races ++ run_line run race
text_more run races race count =
    let here : 0 + length races ≡ run = omega (arith, count) in
    lines_more 0 races race ∙ ap (λ (k : ℕ). lines_text 0 races ++ run_line k race) here

-- one line more is written
pub line_written : (mortal : Bool) (script : Script) (cut : Option ℕ) (run : ℕ) (closed is now_closed : Bool)
    (before mid now : Option (List ℕ)) (race : Race)
    → SoFar mortal script cut run closed before mid → IsToldBy mortal script cut race → Appends mid now (run_line run race)
    → is ≡ is_closed race
    → now_closed ≡ (closed && is) → SoFar mortal script cut (run + 1) now_closed before now
line_written mortal script cut run closed is now_closed before mid now race s told wrote ended both =
    let more = length-append s.races (race ∷ []) in
    let one : (is_closed race && true) ≡ is_closed race = and_true (is_closed race) in
    record {
      races = s.races ++ race ∷ [];
      count = omega (arith, more, s.count);
      each = All-push (IsToldBy mortal script cut) s.races race s.each told;
      wrote =
          subst (λ (x : List ℕ). Appends before now x) (sym (text_more run s.races race s.count))
          (Appends-trans before mid now (lines_text 0 s.races) (run_line run race) s.wrote wrote);
      ends =
          both ∙ ap (λ (b : Bool). b && is) s.ends ∙ ap (λ (b : Bool). list_all is_closed s.races && b) (ended ∙ sym one)
          ∙ sym (list_all-append is_closed s.races (race ∷ []));
    }
  where
    and_true : (b : Bool) → (b && true) ≡ b
    and_true true = refl
    and_true false = refl

-- or a front of it
pub line_stopped : (mortal : Bool) (script : Script) (cut : Option ℕ) (run times : ℕ) (closed : Bool) (before mid now : Option (List ℕ))
    (race : Race)
    → SoFar mortal script cut run closed before mid → run < times → IsToldBy mortal script cut race → Wrote mid now (run_line run race)
    → WroteSomeRaces mortal script cut times before now
line_stopped mortal script cut run times closed before mid now race s few told wrote =
    let more = length-append s.races (race ∷ []) in
    record {
      races = s.races ++ race ∷ [];
      few = omega (arith, more, s.count, few);
      each = All-push (IsToldBy mortal script cut) s.races race s.each told;
      wrote =
          subst (λ (x : List ℕ). Wrote before now x) (sym (text_more run s.races race s.count))
          (Wrote-behind before mid now (lines_text 0 s.races) (run_line run race) s.wrote wrote);
    }

-- or nothing of it
pub stopped_before : (mortal : Bool) (script : Script) (cut : Option ℕ) (run times : ℕ) (closed : Bool) (before now : Option (List ℕ))
    → SoFar mortal script cut run closed before now → run ≤ times → WroteSomeRaces mortal script cut times before now
stopped_before mortal script cut run times closed before now s few =
    record {
      races = s.races;
      few = omega (arith, s.count, few);
      each = s.each;
      wrote = record { front = lines_text 0 s.races; back = []; parts = sym (append-nil (lines_text 0 s.races)); appends = s.wrote };
    }

pub all_raced : (mortal : Bool) (script : Script) (cut : Option ℕ) (run times : ℕ) (closed : Bool) (before now : Option (List ℕ))
    → SoFar mortal script cut run closed before now
    → run ≡ times → WroteRaces mortal script cut times closed before now
all_raced mortal script cut run times closed before now s same =
    record { races = s.races; count = s.count ∙ same; each = s.each; wrote = s.wrote; ends = s.ends }
