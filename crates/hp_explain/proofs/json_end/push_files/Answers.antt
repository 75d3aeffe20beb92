use Rattle.std.specs.Prelude.{string_bytes}
use Rattle.hp_explain.proofs.JsonLaying.{no_file, one_file}
use Rattle.hp_explain.proofs.json_end.push_files.Goals as goal

pub loop-file-init : goal.loop-file-init
loop-file-init c = no_file c.args.core.now (string_bytes c.args.text.now)

pub loop-file-preserved : goal.loop-file-preserved
loop-file-preserved c =
    one_file c.args.core.now c.loop-file.file c.new.result (string_bytes c.args.text.now) (string_bytes c.loop-file.text)
    (string_bytes c.push_comma_before.new.text) (string_bytes c.push_file.new.text) c.new.ensures c.loop-file.invariant
    c.in_ok-push_comma_before.ensures c.in_ok-push_file.ensures
