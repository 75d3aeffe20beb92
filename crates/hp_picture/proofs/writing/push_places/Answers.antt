use Rattle.std.specs.Prelude.{string_bytes}
use Rattle.std.proofs.lemmas.Result.{on_ok_weaker}
use Rattle.hp_picture.specs.Text.{places_text}
use Rattle.hp_picture.proofs.Laid.{laid_seven}
use Rattle.hp_picture.proofs.writing.push_places.Goals as goal

pub returns-clause-text : goal.returns-clause-text
unfolding places_text
returns-clause-text c =
    on_ok_weaker c.push_translations.result (λ last. laid_seven (string_bytes c.args.text.now) (string_bytes c.push_free.new.text)
    (string_bytes c.push_retired.new.text) (string_bytes c.push_hands.new.text) (string_bytes c.push_files.new.text)
    (string_bytes c.push_regions.new.text) (string_bytes c.push_pages.new.text) (string_bytes c.push_translations.new.text) _ _ _ _ _ _ _
    c.in_ok-push_free.ensures.text c.in_ok-push_retired.ensures.text c.in_ok-push_hands.ensures.text c.in_ok-push_files.ensures.text
    c.in_ok-push_regions.ensures.text c.in_ok-push_pages.ensures.text last) c.push_translations.ensures.text
