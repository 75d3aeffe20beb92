-- What `collect` into a `Result` makes of items that may each fail.
use Rattle.std.proofs.Common.{◌≡◌, zero, suc, arith, List, [], ◌∷◌, Result, Ok, Err, IfOk, map, subst, sym}
use Rattle.std.specs.Prelude.{MatchResult}
use Rattle.std.specs.List.{All, AllZip}
use Rattle.rayon.proofs.ListFacts.{AllZip-weaken}

-- where each item that is there meets R, the items that are all there meet it
pub AllZip_of_oks : {X Y : Type 0} (E : Type 0) (R : X → Y → Type 0) (xs : List X) (ys : List Y)
    → AllZip (λ x r. IfOk {E = E} r (R x)) xs (map Ok ys) → AllZip R xs ys
AllZip_of_oks E R [] [] h = tt
AllZip_of_oks E R [] (y ∷ ys) h = absurd h
AllZip_of_oks E R (x ∷ xs) [] h = absurd h
AllZip_of_oks E R (x ∷ xs) (y ∷ ys) h = (h.0, AllZip_of_oks E R xs ys h.1)

-- the collection, where there is one, has items that meet R
pub IfOk_collected : {X Y V E : Type 0} (shows : V → List Y) (R : X → Y → Type 0) (Q : E → Type 0) (xs : List X)
    (items : List (Result Y E)) (r : Result V E) → AllZip (λ x y. IfOk y (R x)) xs items
    → MatchResult r (λ v. (ys : List Y) × (items ≡ map Ok ys) × (shows v ≡ ys)) Q → IfOk r (λ v. AllZip R xs (shows v))
IfOk_collected {Y} {E} shows R Q xs items (Ok v) each made =
    let AllMeet : List (Result Y E) → Type 0 = λ its. AllZip (λ x y. IfOk y (R x)) xs its in
    let Meets : List Y → Type 0 = λ ys. AllZip R xs ys in
    subst Meets (sym made.2) (AllZip_of_oks E R xs made.0 (subst AllMeet made.1 each))
IfOk_collected shows R Q xs items (Err e) each made = tt

-- one more
with_first : {Y : Type 0} (Q : Y → Type 0) (y : Y) (ys : List Y) → Q y → All Q ys → All Q (y ∷ ys)
with_first Q y ys q h zero d within = q
with_first Q y ys q h (suc k) d within = h k d (omega (arith, within))

-- of what each pair meets, the one and the other
zip_left : {X Y : Type 0} (P : X → Y → Type 0) (Q : Y → Type 0) (xs : List X) (ys : List Y)
    → AllZip (λ x y. P x y × Q y) xs ys → AllZip P xs ys
zip_left P Q [] [] h = tt
zip_left P Q [] (y ∷ ys) h = absurd h
zip_left P Q (x ∷ xs) [] h = absurd h
zip_left P Q (x ∷ xs) (y ∷ ys) h = (h.0.0, zip_left P Q xs ys h.1)

zip_right : {X Y : Type 0} (P : X → Y → Type 0) (Q : Y → Type 0) (xs : List X) (ys : List Y)
    → AllZip (λ x y. P x y × Q y) xs ys → All Q ys
zip_right P Q [] [] h = λ k d within. absurd (omega (arith, within))
zip_right P Q [] (y ∷ ys) h = absurd h
zip_right P Q (x ∷ xs) [] h = absurd h
zip_right P Q (x ∷ xs) (y ∷ ys) h = with_first Q y ys h.0.1 (zip_right P Q xs ys h.1)

pub if_ok_left : {X Y V E : Type 0} (shows : V → List Y) (P : X → Y → Type 0) (Q : Y → Type 0) (xs : List X) (r : Result V E)
    → IfOk r (λ v. AllZip (λ x y. P x y × Q y) xs (shows v)) → IfOk r (λ v. AllZip P xs (shows v))
if_ok_left shows P Q xs (Ok v) h = zip_left P Q xs (shows v) h
if_ok_left shows P Q xs (Err e) h = tt

pub if_ok_right : {X Y V E : Type 0} (shows : V → List Y) (P : X → Y → Type 0) (Q : Y → Type 0) (xs : List X) (r : Result V E)
    → IfOk r (λ v. AllZip (λ x y. P x y × Q y) xs (shows v)) → IfOk r (λ v. All Q (shows v))
if_ok_right shows P Q xs (Ok v) h = zip_right P Q xs (shows v) h
if_ok_right shows P Q xs (Err e) h = tt

-- what is less of each pair
pub if_ok_weaken : {X Y V E : Type 0} (shows : V → List Y) (P Q : X → Y → Type 0) (xs : List X) (r : Result V E)
    → ((x : X) → (y : Y) → P x y → Q x y) → IfOk r (λ v. AllZip P xs (shows v)) → IfOk r (λ v. AllZip Q xs (shows v))
if_ok_weaken shows P Q xs (Ok v) less h = AllZip-weaken P Q less xs (shows v) h
if_ok_weaken shows P Q xs (Err e) less h = tt

-- what each item meets whatever it stands beside
pub if_ok_all : {X Y V E : Type 0} (shows : V → List Y) (Q : Y → Type 0) (xs : List X) (r : Result V E)
    → IfOk r (λ v. AllZip (λ x y. Q y) xs (shows v)) → IfOk r (λ v. All Q (shows v))
if_ok_all shows Q xs r h =
    if_ok_right shows (λ x y. Unit {0}) Q xs r (if_ok_weaken shows (λ x y. Q y) (λ x y. Unit {0} × Q y) xs r (λ x y q. (tt, q)) h)
