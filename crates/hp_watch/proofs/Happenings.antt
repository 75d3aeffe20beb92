-- Events that happen one after the other: one more at their end.
use Rattle.std.proofs.Common.{◌≡◌, ℕ, ◌+◌, ◌<◌, List, [], ◌∷◌, ◌++◌, length, take, get_or, refl, sym, ap, subst, ◌∙◌}
use Rattle.std.proofs.lemmas.List.{take_more}
use Rattle.hp_base.specs.declared.event.Event.{Event}
use Rattle.hp_core.specs.State.{CoreState}
use Rattle.hp_watch.specs.Happenings.{Happening, Happened, Happens, events_of}

-- one event more happens
pub happens_more : (old mid new : CoreState) (list : List Happening) (h : Happening) → Happens old list mid
    → Happened mid h → h.core ≡ new → Happens old (list ++ (h ∷ [])) new
happens_more old mid new [] h is happened to = (subst (λ (s : CoreState). Happened s h) is happened, sym to)
happens_more old mid new (k ∷ list) h is happened to = (is.0, happens_more k.core mid new list h is.1 happened to)

pub events_more : (list : List Happening) (h : Happening) → events_of (list ++ (h ∷ [])) ≡ events_of list ++ (h.event ∷ [])
events_more [] h = refl
events_more (k ∷ list) h = ap (λ (x : List Event). k.event ∷ x) (events_more list h)

-- the events up to this one are those before it, and it
pub up_to : (events : List Event) (n : ℕ) (e : Event) → n < length events → e ≡ get_or events n e
    → take (n + 1) events ≡ take n events ++ (e ∷ [])
up_to events n e lt is = take_more events n e lt ∙ ap (λ (x : Event). take n events ++ (x ∷ [])) (sym is)
