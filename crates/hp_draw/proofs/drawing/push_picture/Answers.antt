-- One text behind the other makes the picture.
use Rattle.std.proofs.Common.{◌≡◌, ◌++◌, ℕ, List, Ok, Err, Result, OnOk, ◌∙◌, rules}
use Rattle.std.specs.Prelude.{string_bytes, codes, is_ok, if◌then◌else◌}
use Rattle.std.proofs.lemmas.List.{append_assoc}
use Rattle.std.proofs.lemmas.Result.{on_ok_weaker}
use Rattle.hp_base.specs.Text.{sizes, sizes_text}
use Rattle.hp_draw.specs.Pictures.{picture_text}
use Rattle.hp_draw.proofs.drawing.push_picture.Goals as goal

joined : (text a b c d e f : List ℕ) → (((((text ++ a) ++ b) ++ c) ++ d) ++ e) ++ f ≡ text ++ (a ++ (b ++ (c ++ (d ++ (e ++ f)))))
joined text a b c d e f =
    append_assoc ((((text ++ a) ++ b) ++ c) ++ d) e f ∙ append_assoc (((text ++ a) ++ b) ++ c) d (e ++ f)
    ∙ (append_assoc ((text ++ a) ++ b) c (d ++ (e ++ f)) ∙ append_assoc (text ++ a) b (c ++ (d ++ (e ++ f)))
    ∙ append_assoc text a (b ++ (c ++ (d ++ (e ++ f)))))

pieces : (text t1 t2 t3 t4 t5 t6 a b c d e f : List ℕ) → t1 ≡ text ++ a → t2 ≡ t1 ++ b → t3 ≡ t2 ++ c → t4 ≡ t3 ++ d
    → t5 ≡ t4 ++ e → t6 ≡ t5 ++ f → t6 ≡ text ++ (a ++ (b ++ (c ++ (d ++ (e ++ f)))))
pieces text t1 t2 t3 t4 t5 t6 a b c d e f one two three four five six =
    six ∙ (λ i. (five ∙ (λ j. (four ∙ (λ k. (three ∙ (λ l. (two ∙ (λ m. one m ++ b)) l ++ c)) k ++ d)) j ++ e)) i ++ f)
    ∙ joined text a b c d e f

if_pushed : {T E : Type 0} (result : Result T E) (new old more : List ℕ) → new ≡ (if is_ok result then old ++ more else old)
    → OnOk result (new ≡ old ++ more)
if_pushed (Ok x) new old more e = e
if_pushed (Err x) new old more e = tt

pub returns : goal.returns
unfolding picture_text
returns c =
    let title : c.as_str.result.now ≡ sizes_text (sizes c.args.config) = search rules in
    on_ok_weaker c.push_str.result (λ last. pieces _ _ _ _ _ _ _ _ _ _ _ _ _ (c.in_ok-push_head.ensures {u = tt})
    (rw title at c.in_ok-push_legend.ensures) (c.in_ok-push_lines.ensures {u = tt}) (c.in_ok-push_tasks.ensures {u = tt})
    (rw c.as_slice.ensures.value at c.in_ok-push_curves.ensures) last)
    (if_pushed c.push_str.result (string_bytes c.push_str.new.self) (string_bytes c.push_curves.new.text)
    (codes "</svg>\n") c.push_str.ensures.bytes)
