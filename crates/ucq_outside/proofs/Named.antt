-- The file of a name in a list of names and bytes.
use Rattle.std.proofs.Common.{◌≡◌, ℕ, List, [], ◌∷◌, Some, cond, true, false, refl, find, option_map, string_bytes, bytes_eq}
use Rattle.std.specs.declared.string.String.{String}
use Rattle.std.specs.declared.alloc.Global.{Global}
use Rattle.std.specs.Global.{Vec}
use Rattle.ucq_outside.specs.Shelves.{file_named, files_of}

-- the bytes of the first pair that has the name are those of the file of that name
pub found_file : (name : List ℕ) (files : List (String Global × Vec ℕ)) → option_map (λ f. f.1.items) (find (λ f. bytes_eq (string_bytes f.0) name) files) ≡ file_named name (files_of files)
found_file name [] = refl
found_file name (f ∷ fs) =
    elim (bytes_eq (string_bytes f.0) name) as (λ b. option_map (λ f. f.1.items) (cond b (Some f) (find (λ f. bytes_eq (string_bytes f.0) name) fs)) ≡ cond b (Some f.1.items) (file_named name (files_of fs)))
    [ true ↦ refl | false ↦ found_file name fs ]
