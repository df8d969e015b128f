use Rattle.std.proofs.Common.{rules, ◌≡◌, ◌∙◌, option_map, find, bytes_eq, string_bytes}
use Rattle.std.proofs.lemmas.Iterator.{YieldsList-from_slice}
use Rattle.std.proofs.lemmas.Iterator.Search.{find_from_yields_List}
use borrow.Author.Tests.{tests}
use Rattle.ucq_outside.proofs.Named.{found_file}
use Rattle.ucq_outside.proofs.shelves.file_of.Goals as goal

pub returns : goal.returns
returns c =
    let pair = find_from_yields_List (λ f. bytes_eq (string_bytes f.0) c.args.name.now) _ _ c.find.result c.find.ensures.ran (YieldsList-from_slice c.args.files.now cc) (λ x b q k. search (rules, tests)) in
    let found : option_map (λ s. s.now) c.map.result ≡ option_map (λ f. f.1.items) (find (λ f. bytes_eq (string_bytes f.0) c.args.name.now) c.args.files.now) = search (rules, tests, pair) in
    found ∙ found_file c.args.name.now c.args.files.now
