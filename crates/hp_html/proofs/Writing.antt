-- The head, the objects and the tail of a page, one behind the other.
use Rattle.std.proofs.Common.{◌≡◌, ◌≤◌, ◌<◌, ◌+◌, ◌∙◌, ℕ, List, [], ◌∷◌, ◌++◌, ◌^◌, ◌-◌, ap, length, get_or, take, drop, Option, refl, sym, subst, inr, arith}
use Rattle.std.specs.List.{flat_map}
use Rattle.std.specs.Prelude.{OnOk, IfErr, Result, Ok, Err}
use Rattle.std.specs.Io.KnownBytes.{Appends}
use Rattle.std.proofs.KnownBytes.{Appends-kept, Appends-trans}
use Rattle.std.proofs.lemmas.List.{append-nil, drop_more, take-append-drop, take_all, take_more}
use Rattle.std.proofs.lemmas.List.Concat.{flat_map-append}
use Rattle.hp_base.specs.Text.{Sizes}
use Rattle.hp_base.specs.declared.event.Event.{Event}
use Rattle.hp_explain.specs.JsonRuns.{Objects, WroteObjects, WroteSomeObjects, no_objects, some_objects, all_objects}
use Rattle.hp_explain.specs.Views.{events_until, whole_view}
use Rattle.hp_explain.specs.declared.view.View.{View}
use Rattle.hp_text.specs.Collecting.{ReadsTrace}
use Rattle.hp_text.specs.Writing.{Wrote, IsWriteFault}
use Rattle.hp_text.specs.declared.fault.ReplayFault.{ReplayFault}
use Rattle.hp_text.specs.declared.fault.ReplayFault.TheVariants.{Write}
use Rattle.hp_text.proofs.Writes.{Wrote-behind, Wrote-more}
use Rattle.hp_html.specs.HtmlPages.{NotPaged, HtmlPage, WroteHtmlPage, WroteSomeHtmlPage, head_text, in_head, in_objects, in_page, tail_text}
use Rattle.hp_html.proofs.Plain.{no_less, no_less_in_some}

-- the whole view leaves no event of a trace out
all_events : (events : List Event) → length events ≤ 1000000 → events_until whole_view events ≡ events
all_events events few = take_all (2 ^ 32 - 1 - 1) events (omega (arith, few))

-- the objects of all events make a page
a_page : (s : Sizes) (events : List Event) (text : List ℕ) → Objects whole_view s events text
    → HtmlPage s events (head_text ++ (text ++ tail_text))
a_page s events text all =
    record { objects = text; are = all; no_less = no_less whole_view s events text all; is = refl }

-- all was written but the tail
stopped_in_tail : (s : Sizes) (events : List Event) (before a b after : Option (List ℕ)) → Appends before a head_text
    → WroteObjects whole_view s events a b → Wrote b after tail_text → WroteSomeHtmlPage s events before after
stopped_in_tail s events before a b after head objects tail =
    in_page (head_text ++ (objects.text ++ tail_text)) (a_page s events objects.text objects.are)
    (Wrote-behind before a after head_text (objects.text ++ tail_text) head
    (Wrote-behind a b after objects.text tail_text objects.wrote tail))

-- the objects were not written to their end
stopped_in_objects : (s : Sizes) (events : List Event) (before a after : Option (List ℕ)) → Appends before a head_text
    → WroteSomeObjects whole_view s events a after → WroteSomeHtmlPage s events before after
stopped_in_objects s events before a after head (no_objects kept) =
    in_head (record {
      front = head_text;
      back = [];
      parts = sym (append-nil head_text);
      appends = Appends-kept before a after head_text head kept;
    })
stopped_in_objects s events before a after head (some_objects text some wrote) =
    in_objects (head_text ++ text)
    (record { objects = text; are = some; no_less = no_less_in_some whole_view s events text some; is = refl })
    (Wrote-behind before a after head_text text head wrote)
stopped_in_objects s events before a after head (all_objects text all wrote) =
    in_page (head_text ++ (text ++ tail_text)) (a_page s events text all)
    (Wrote-behind before a after head_text (text ++ tail_text) head (Wrote-more a after text tail_text wrote))

pub objects_stopped : (v : View) (s : Sizes) (events : List Event) (before a after : Option (List ℕ)) → v ≡ whole_view
    → length events ≤ 1000000 → Appends before a head_text → WroteSomeObjects v s (events_until v events) a after
    → WroteSomeHtmlPage s events before after
objects_stopped v s events before a after whole few head wrote =
    stopped_in_objects s events before a after head
    (subst (λ (list : List Event). WroteSomeObjects whole_view s list a after) (all_events events few)
    (subst (λ (w : View). WroteSomeObjects w s (events_until w events) a after) whole wrote))

-- the objects of all events
all_objects_wrote : (v : View) (s : Sizes) (events : List Event) (a b : Option (List ℕ)) → v ≡ whole_view → length events ≤ 1000000
    → WroteObjects v s (events_until v events) a b → WroteObjects whole_view s events a b
all_objects_wrote v s events a b whole few wrote =
    subst (λ (list : List Event). WroteObjects whole_view s list a b) (all_events events few)
    (subst (λ (w : View). WroteObjects w s (events_until w events) a b) whole wrote)

-- ---- what comes of the tail

pub page_wrote : {A : Type 0} (r : Result A ReplayFault) (v : View) (s : Sizes) (events : List Event) (before a b after : Option (List ℕ))
    → v ≡ whole_view → length events ≤ 1000000 → Appends before a head_text → WroteObjects v s (events_until v events) a b
    → OnOk r (Appends b after tail_text) → OnOk r (WroteHtmlPage s events before after)
page_wrote (Ok x) v s events before a b after whole few head wrote tail =
    let objects = all_objects_wrote v s events a b whole few wrote in
    record {
      text = head_text ++ (objects.text ++ tail_text);
      page = a_page s events objects.text objects.are;
      wrote =
          Appends-trans before a after head_text (objects.text ++ tail_text) head
          (Appends-trans a b after objects.text tail_text objects.wrote tail);
    }
page_wrote (Err fault) v s events before a b after whole few head wrote tail = tt

pub tail_stopped : {A : Type 0} (r : Result A ReplayFault) (v : View) (s : Sizes) (events : List Event)
    (before a b after : Option (List ℕ)) → v ≡ whole_view → length events ≤ 1000000 → Appends before a head_text
    → WroteObjects v s (events_until v events) a b → IfErr r (λ fault. IsWriteFault fault × Wrote b after tail_text)
    → IfErr r (λ fault. IsWriteFault fault × WroteSomeHtmlPage s events before after)
tail_stopped (Ok x) v s events before a b after whole few head wrote tail = tt
tail_stopped (Err fault) v s events before a b after whole few head wrote tail = (
  tail.0,
  stopped_in_tail s events before a b after head (all_objects_wrote v s events a b whole few wrote) tail.1,
)

-- what was written in part was read
pub not_paged : {A : Type 0} (r : Result A ReplayFault) (from to before after : Option (List ℕ)) (s : Sizes) (events : List Event)
    → ReadsTrace from to s events → IfErr r (λ fault. IsWriteFault fault × WroteSomeHtmlPage s events before after)
    → IfErr r (λ fault. NotPaged fault from to before after)
not_paged (Ok x) from to before after s events reads stopped = tt
not_paged (Err fault) from to before after s events reads stopped =
    inr (stopped.0, record { sizes = s; events = events; reads = reads; wrote = stopped.1 })

-- ---- texts, one behind the other

-- those up to one, and that one
pub one_more : {X : Type 0} (f : X → List ℕ) (xs : List X) (k : ℕ) (x : X) → k < length xs
    → flat_map f (take (k + 1) xs) ≡ flat_map f (take k xs) ++ f (get_or xs k x)
one_more f xs k x within =
    ap (λ l. flat_map f l) (take_more xs k x within) ∙ flat_map-append f (take k xs) (get_or xs k x ∷ [])
    ∙ ap (λ l. flat_map f (take k xs) ++ l) (append-nil (f (get_or xs k x)))

-- all are those up to one, that one, and those behind it
pub parted : {X : Type 0} (f : X → List ℕ) (xs : List X) (k : ℕ) (x : X) → k < length xs
    → flat_map f xs ≡ flat_map f (take k xs) ++ (f (get_or xs k x) ++ flat_map f (drop (k + 1) xs))
parted f xs k x within =
    ap (λ l. flat_map f l) (sym (take-append-drop k xs) ∙ ap (λ l. take k xs ++ l) (drop_more xs k x within))
    ∙ flat_map-append f (take k xs) (get_or xs k x ∷ drop (k + 1) xs)

-- those up to one were written whole, and that one in part
pub stopped_in_one : {X : Type 0} (f : X → List ℕ) (xs : List X) (k : ℕ) (x : X) (before mid after : Option (List ℕ)) (fault : ReplayFault)
    → k < length xs → Appends before mid (flat_map f (take k xs)) → fault ≡ Write → Wrote mid after (f (get_or xs k x))
    → IsWriteFault fault × Wrote before after (flat_map f xs)
stopped_in_one f xs k x before mid after fault within wrote is stopped = (
  subst IsWriteFault (sym is) tt,
  subst (Wrote before after) (sym (parted f xs k x within))
      (Wrote-behind before mid after (flat_map f (take k xs)) (f (get_or xs k x) ++ flat_map f (drop (k + 1) xs)) wrote
      (Wrote-more mid after (f (get_or xs k x)) (flat_map f (drop (k + 1) xs)) stopped)),
)
