-- Where a sweep begins, as the file has it and as the machine sees it.
use Rattle.std.proofs.Common.{◌≡◌, ℕ, ◌<◌, List, length, get_or, ◌∙◌, ap, subst}
use Rattle.std.specs.Prelude.{max}
use Rattle.std.specs.FinMap.{get}
use Rattle.std.proofs.lemmas.List.{get_or_default}
use Rattle.hp_base.specs.Pages.{IsPagesEnd}
use Rattle.hp_parts.specs.declared.parts.FileState.{FileState}
use Rattle.hp_parts.specs.View.{no_file, sizes_of, pages_of}

pub top_is : (xs : List FileState) (n f : ℕ) (d : FileState) (end top : ℕ) → f < length xs → n ≡ f → d ≡ get_or xs n d
    → IsPagesEnd (get d.cache.pages) end → top ≡ max d.size end
    → (x : ℕ) × IsPagesEnd (pages_of xs f) x × (top ≡ max (sizes_of xs f) x)
unfolding sizes_of pages_of
top_is xs n f d end top low e is ends larger =
    let same : d ≡ get_or xs f d = is ∙ ap (λ (k : ℕ). get_or xs k d) e in
    let read : d ≡ get_or xs f no_file = same ∙ get_or_default xs f d no_file low in
    (end, subst (λ (y : FileState). IsPagesEnd (get y.cache.pages) end) read ends, larger ∙ ap (λ (y : FileState). max y.size end) read)
