-- Lists of what there may be.
use Rattle.std.specs.Prelude.{List, [], ◌∷◌, Option, None, Some}

-- what there is, if anything
abbrev pub listed : {A : Type 0} → Option A → List A
listed None = []
listed (Some x) = x ∷ []
