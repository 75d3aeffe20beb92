-- Where a reading of a trace stops.
use Rattle.std.proofs.Common.{◌≡◌, ℕ, suc, ◌<◌, List, [], ◌++◌, length, Option, None, refl, sym, subst, arith}
use Rattle.std.specs.Prelude.{IfSome}
use Rattle.std.specs.Io.KnownBytes.{Consumes}
use Rattle.hp_text.specs.Lines.{opening_feed, fault_at, feed_after}
use Rattle.hp_text.specs.Traces.{HasNoEnd}
use Rattle.hp_text.specs.Collecting.{NotRead, NotReadAtMemory, AreLinesOfSome, no_line, each_line}
use Rattle.hp_text.proofs.BadLines.{NoLine}
use Rattle.hp_text.proofs.Whole.{taken}
use Rattle.hp_text.proofs.Fronts.{Front, unbegun, begun, front_of, no_header, bad_rest}

-- no line stands behind those that were read
pub line_cut : (from to : Option (List ℕ)) (front back : List ℕ) → Consumes from to (front ++ back)
    → (feed_after opening_feed front).fault ≡ None
    → (0 < (feed_after opening_feed front).lines → 0 < length ((feed_after opening_feed front).rest ++ back))
    → IfSome to (λ left. NoLine (feed_after opening_feed front).lines ((feed_after opening_feed front).rest ++ (back ++ left)))
    → NotRead (fault_at (feed_after opening_feed front).lines) from to
line_cut from to front back reads ok some bad = by (front_of front back ok)
  where
    by : Front front back → NotRead (fault_at (feed_after opening_feed front).lines) from to
    by (unbegun none is) =
        subst (λ (k : ℕ). NotRead (fault_at k) from to) (sym none)
        (record {
          bytes = front ++ back;
          reads = reads;
          bad = no_header front back (feed_after opening_feed front).rest (feed_after opening_feed front).lines to none is bad;
        })
    by (begun t count parts) =
        let add : (feed_after opening_feed front).lines ≡ suc (length t.trace.events) = omega arith in
        subst (λ (k : ℕ). NotRead (fault_at k) from to) (sym add)
        (record {
          sizes = t.trace.sizes;
          events = t.trace.events;
          rest = (feed_after opening_feed front).rest ++ back;
          trace = t.trace.trace;
          reads = subst (λ (x : List ℕ). Consumes from to x) parts reads;
          number = refl;
          bad =
              bad_rest (feed_after opening_feed front).lines (length t.trace.events)
              (feed_after opening_feed front).rest back to count (some (omega arith)) bad;
        })

-- memory was refused for the last event before some bytes
pub memory_cut : (from to : Option (List ℕ)) (front back : List ℕ) → Consumes from to (front ++ back)
    → (feed_after opening_feed front).fault ≡ None → 1 < (feed_after opening_feed front).lines → NotReadAtMemory from to
memory_cut from to front back reads ok event = by (front_of front back ok)
  where
    by : Front front back → NotReadAtMemory from to
    by (unbegun none is) = absurd (omega arith)
    by (begun t count parts) =
        record {
          sizes = t.trace.sizes;
          events = t.trace.events;
          rest = (feed_after opening_feed front).rest ++ back;
          trace = t.trace.trace;
          reads = subst (λ (x : List ℕ). Consumes from to x) parts reads;
          some = omega arith;
        }

-- bytes without a fault have no bad line
pub lines_of : (bytes : List ℕ) → (feed_after opening_feed bytes).fault ≡ None → AreLinesOfSome bytes
lines_of bytes ok = by (front_of bytes [] ok)
  where
    no_end : HasNoEnd (feed_after opening_feed bytes).rest
    no_end = (taken bytes ok).held.no_end

    by : Front bytes [] → AreLinesOfSome bytes
    by (unbegun none is) = no_line (subst (λ (x : List ℕ). HasNoEnd x) is no_end)
    by (begun t count parts) =
        each_line t.trace.sizes t.trace.events (feed_after opening_feed bytes).rest t.trace.trace (sym t.text) no_end
