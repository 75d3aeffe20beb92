-- The whole picture of a run.
use Rattle.std.specs.Prelude.{ℕ, List, ◌++◌, length, codes}
use Rattle.hp_base.specs.Text.{Sizes, sizes_text}
use Rattle.hp_draw.specs.Curves.{curves_text}
use Rattle.hp_draw.specs.Frames.{head_text, legend_text, lines_text}
use Rattle.hp_draw.specs.Hatches.{hatch_text}
use Rattle.hp_draw.specs.Lanes.{call_text, lanes_text, phase_of, stay_text}
use Rattle.hp_draw.specs.Marks.{mark_text}
use Rattle.hp_draw.specs.Shapes.{texts}
use Rattle.hp_draw.specs.Sketches.{Drawn}
use Rattle.hp_draw.specs.declared.layout.Layout.{Layout}

-- the lanes: the box of each stay, the waits over them, the names of phases, the words over each call, the marks
unfoldable pub tasks_text : Layout → Drawn → List ℕ
tasks_text l d =
    lanes_text l (length l.tops.items)
    ++ (texts (stay_text l) d.stays
    ++ (texts (hatch_text l) d.waits
    ++ (texts (phase_of l) d.stays ++ (texts (call_text l) d.stays ++ texts (mark_text l) d.marks))))

-- what is drawn, where it stands by that layout
unfoldable pub picture_text : Layout → Sizes → Drawn → List ℕ
picture_text l s d =
    head_text l
    ++ (legend_text (sizes_text s) s.quota ++ (lines_text l ++ (tasks_text l d ++ (curves_text l s.quota d.numbers ++ codes "</svg>\n"))))
