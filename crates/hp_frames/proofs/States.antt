-- Where frames are, read off their records.
use Rattle.std.proofs.Common.{◌≡◌, ℕ, ◌<◌, List, [], ◌∷◌, ◌++◌, length, set, Some, slice_get, arith, ap, ◌∙◌}
use Rattle.std.specs.Prelude.{map}
use Rattle.std.proofs.lemmas.Option.{slice_get_within}
use Rattle.std.proofs.lemmas.Grind.{common_steps}
use Rattle.std.proofs.lemmas.List.{length-map, map-set, map_push}
use Rattle.hp_frames.specs.declared.frame.FrameState.{FrameState}
use Rattle.hp_frames.specs.declared.record.Record.{Record}
use Rattle.hp_frames.specs.Records.{state_of, states}
use Rattle.hp_frames.proofs.Frames.{set_same}

-- there is a record for each frame
pub many : (rs : List Record) → length (map state_of rs) ≡ length rs
many rs = length-map rs state_of

-- where the frames are after one record changes
pub set_states : (rs : List Record) (x : ℕ) (r : Record) → map state_of (set rs x r) ≡ set (map state_of rs) x (state_of r)
set_states rs x r = map-set state_of rs x r

pub states_set : (rs new : List Record) (x : ℕ) (r : Record) → new ≡ set rs x r → states new ≡ set (states rs) x (state_of r)
states_set rs new x r is = ap states is ∙ set_states rs x r

-- and with one record more
pub states_more : (rs new : List Record) (r : Record) → new ≡ rs ++ r ∷ [] → states new ≡ states rs ++ state_of r ∷ []
states_more rs new r is = ap states is ∙ map_push state_of rs r

-- a frame that is somewhere has a record
pub within : (rs : List Record) (x : ℕ) (s : FrameState) → slice_get (map state_of rs) x ≡ Some s → x < length rs
within rs x s at = let below = slice_get_within (map state_of rs) x s at in omega (arith, below, many rs)

-- what shows where a frame is after its record changes
pub ruleset places = (common_steps, set_same, set_states, within)
