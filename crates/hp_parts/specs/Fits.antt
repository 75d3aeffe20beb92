-- That a task, a file, a frame or a page is there: what the steps of calls take for granted of a pool.
use Rattle.std.specs.Prelude.{◌≡◌, ℕ, ◌≤◌, ◌<◌, Some}
use Rattle.hp_frames.specs.declared.frame.FrameState.TheVariants.{Hand, Placed}
use Rattle.hp_machine.specs.State.{Pool}

abbrev pub IsTaskOf : Pool → ℕ → Type 0
IsTaskOf s t = (1 ≤ t) × (t ≤ s.geometry.tasks)

abbrev pub IsFileOf : Pool → ℕ → Type 0
IsFileOf s f = f < s.geometry.files

-- the frame is in a call's hand
abbrev pub IsHeld : Pool → ℕ → Type 0
IsHeld s x = (x < s.frames) × (s.frame x ≡ Hand)

-- the frame is a page's, and has a word
abbrev pub IsPage : Pool → ℕ → Type 0
IsPage s x = (x < s.frames) × ((word : ℕ) × (s.frame x ≡ Placed word))

-- the index has a page, whose frame has a word
abbrev pub HasPage : Pool → (file index : ℕ) → Type 0
HasPage s f i = (x : ℕ) × (s.pages f i ≡ Some x) × IsPage s x
