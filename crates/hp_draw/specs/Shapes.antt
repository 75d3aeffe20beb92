-- The few shapes that a picture is made of, as elements of SVG.
use Rattle.std.specs.Prelude.{ℕ, List, [], ◌∷◌, ◌++◌, codes}
use Rattle.std.specs.Fmt.{decimal}
use Rattle.hp_draw.specs.declared.shapes.Place.{Place}

-- a box
unfoldable pub box_text : (class : List ℕ) → Place → List ℕ
box_text class p =
    codes "<rect class='" ++ (class
    ++ (codes "' x='" ++ (decimal p.x
    ++ (codes "' y='" ++ (decimal p.y
    ++ (codes "' width='" ++ (decimal p.width
    ++ (codes "' height='" ++ (decimal p.height ++ codes "'/>\n")))))))))

-- words that begin there
unfoldable pub words_text : (class : List ℕ) → (x y : ℕ) → (words : List ℕ) → List ℕ
words_text class x y words =
    codes "<text class='" ++ (class
    ++ (codes "' x='" ++ (decimal x ++ (codes "' y='" ++ (decimal y ++ (codes "'>" ++ (words ++ codes "</text>\n")))))))

-- words that stand upright there
unfoldable pub upright_text : (class : List ℕ) → (x y : ℕ) → (words : List ℕ) → List ℕ
upright_text class x y words =
    codes "<text class='" ++ (class
    ++ (codes "' transform='translate(" ++ (decimal x
    ++ (codes " " ++ (decimal y ++ (codes ")rotate(-90)'>" ++ (words ++ codes "</text>\n")))))))

-- a line from one height to another
unfoldable pub line_text : (class : List ℕ) → (x from to : ℕ) → List ℕ
line_text class x from to =
    codes "<path class='" ++ (class
    ++ (codes "' d='M" ++ (decimal x ++ (codes " " ++ (decimal from ++ (codes "V" ++ (decimal to ++ codes "'/>\n")))))))

-- what is written of each, one behind the other
unfoldable pub texts : {A : Type 0} → (A → List ℕ) → List A → List ℕ
texts f [] = []
texts f (x ∷ more) = f x ++ texts f more
