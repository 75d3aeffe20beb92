use Rattle.std.proofs.Common.{◌≡◌, map, take}
use Rattle.hp_audit.specs.declared.picture.FilePicture.{FilePicture}
use Rattle.hp_picture_commands.proofs.flattening.files.Given as goal

abbrev pub invariant-loop-file : goal.invariant-loop-file
invariant-loop-file l = l.sizes.items ≡ map (λ (file : FilePicture). (file.size, file.locked)) (take l.file-index l.files)
