-- What is read and written where a trace is written as a page.
use Rattle.std.specs.List.{flat_map}
use Rattle.std.specs.Prelude.{◌≡◌, ◌≢◌, ℕ, List, [], ◌++◌, ◌∷◌, Option, ◌⊎◌, All}
use Rattle.std.specs.Io.KnownBytes.{Appends, Keeps}
use Rattle.hp_base.specs.Text.{Sizes}
use Rattle.hp_base.specs.declared.event.Event.{Event}
use Rattle.hp_explain.specs.JsonRuns.{Objects, SomeObjects}
use Rattle.hp_explain.specs.Views.{whole_view}
use Rattle.hp_html.specs.declared.body.TheConstants.{BODY}
use Rattle.hp_html.specs.declared.front.TheConstants.{FRONT}
use Rattle.hp_html.specs.declared.help.TheConstants.{HELP, HELP_BEGIN}
use Rattle.hp_html.specs.declared.legend.TheConstants.{LEGEND}
use Rattle.hp_html.specs.declared.page_script.TheConstants.{PAGE_SCRIPT}
use Rattle.hp_html.specs.declared.page_style.TheConstants.{PAGE_STYLE}
use Rattle.hp_html.specs.declared.picture_script.TheConstants.{PICTURE_SCRIPT}
use Rattle.hp_html.specs.declared.run_script.TheConstants.{RUN_SCRIPT}
use Rattle.hp_html.specs.declared.search_form.TheConstants.{SEARCH_FORM}
use Rattle.hp_html.specs.declared.tail.TheConstants.{TAIL}
use Rattle.hp_html.specs.declared.tools.TheConstants.{TOOLS, TOOLS_END}
use Rattle.hp_html.specs.declared.viewer_script.TheConstants.{VIEWER_SCRIPT}
use Rattle.hp_html.specs.declared.viewer_style.TheConstants.{VIEWER_STYLE}
use Rattle.hp_text.specs.Collecting.{ReadsTrace, NotRead}
use Rattle.hp_text.specs.Writing.{Wrote, IsWriteFault}
use Rattle.hp_text.specs.declared.fault.ReplayFault.{ReplayFault}

-- A reader had the bytes `from` left, and now has `to`; a writer held `before`, and now holds `after`.

-- what stands before the data of a page, and behind them
unfoldable pub head_text : List ℕ
head_text = flat_map (λ text. text) (
    FRONT.now ∷ VIEWER_STYLE.now ∷ PAGE_STYLE.now ∷ TOOLS.now ∷ SEARCH_FORM.now ∷ TOOLS_END.now ∷ LEGEND.now
    ∷ HELP_BEGIN.now ∷ HELP.now ∷ BODY.now ∷ RUN_SCRIPT.now ∷ PICTURE_SCRIPT.now
    ∷ VIEWER_SCRIPT.now ∷ PAGE_SCRIPT.now ∷ [])

unfoldable pub tail_text : List ℕ
tail_text = TAIL.now

-- no character of the text is `<`
abbrev pub HasNoLess : List ℕ → Type 0
HasNoLess text = All (λ c. c ≢ 60) text

-- A page: between these the objects of a run of all events in a pool of these sizes. They have no `<`, so the element in which they stand
-- ends where the tail begins
pub record HtmlPage (s : Sizes) (events : List Event) (text : List ℕ) : Type 0 where
  pub objects : List ℕ
  pub are : Objects whole_view s events objects
  pub no_less : HasNoLess objects
  pub is : text ≡ head_text ++ (objects ++ tail_text)

-- the front of one: the objects of a front of the events, without an end
pub record SomeHtmlPage (s : Sizes) (events : List Event) (text : List ℕ) : Type 0 where
  pub objects : List ℕ
  pub are : SomeObjects whole_view s events objects
  pub no_less : HasNoLess objects
  pub is : text ≡ head_text ++ objects

-- the page was written
pub record WroteHtmlPage (s : Sizes) (events : List Event) (before after : Option (List ℕ)) : Type 0 where
  pub text : List ℕ
  pub page : HtmlPage s events text
  pub wrote : Appends before after text

-- a front of its head was written, of such a front, or of the page
pub data WroteSomeHtmlPage (s : Sizes) (events : List Event) (before after : Option (List ℕ)) : Type 0 where
  in_head : Wrote before after head_text → WroteSomeHtmlPage s events before after
  in_objects : (text : List ℕ) → SomeHtmlPage s events text → Wrote before after text → WroteSomeHtmlPage s events before after
  in_page : (text : List ℕ) → HtmlPage s events text → Wrote before after text → WroteSomeHtmlPage s events before after

-- the reader's bytes were the text of a trace, whose page was written
pub record IsHtmlPage (from to before after : Option (List ℕ)) : Type 0 where
  pub sizes : Sizes
  pub events : List Event
  pub reads : ReadsTrace from to sizes events
  pub wrote : WroteHtmlPage sizes events before after

-- they were, and a part of the page was written
pub record IsPartOfHtmlPage (from to before after : Option (List ℕ)) : Type 0 where
  pub sizes : Sizes
  pub events : List Event
  pub reads : ReadsTrace from to sizes events
  pub wrote : WroteSomeHtmlPage sizes events before after

-- nothing is written before the whole trace is read
abbrev pub NotPaged : ReplayFault → Option (List ℕ) → Option (List ℕ) → Option (List ℕ) → Option (List ℕ) → Type 0
NotPaged fault from to before after =
    (NotRead fault from to × Keeps before after) ⊎ (IsWriteFault fault × IsPartOfHtmlPage from to before after)
