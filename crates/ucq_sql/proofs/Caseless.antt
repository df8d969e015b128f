-- Names of tables, where the case of letters means nothing.
use Rattle.std.proofs.Common.{◌≡◌, ℕ, ◌+◌, ◌<◌, ◌^◌, true, cond, List, [], ◌∷◌, ◌++◌, map, refl, sym, ap, ap₂, ◌∙◌, append_assoc, arith}
use Rattle.std.specs.Prelude.{codes, decimal, nat_lt}
use Rattle.std.specs.Char.{to_ascii_lowercase}
use Rattle.std.specs.Str.Parse.{AllDigits}
use Rattle.std.proofs.lemmas.List.{map-append}
use Rattle.std.proofs.lemmas.Bool.Decides.{nat_tests}
use Rattle.std.proofs.lemmas.Fmt.{decimal_is_IsNumeral, decimal_injective}
use Rattle.std.proofs.lemmas.Str.Parse.{digit_at}
use Rattle.ucq_terms.specs.Names.{name_text}
use Rattle.ucq_sql.specs.declared.algebra.Table.{Table}
use Rattle.ucq_sql.specs.Text.{caseless_name}
use Rattle.ucq_sql.proofs.Reading.{decimal_run, slash_apart}

small : (c : ℕ) → c < 65 → to_ascii_lowercase c ≡ c
small c h = let below : nat_lt c 65 ≡ true = grind (arith, nat_tests) in ap (λ b. cond b c (cond (nat_lt c 91) (c + 32) c)) below

digits_stay : (ds : List ℕ) → AllDigits 10 ds → map to_ascii_lowercase ds ≡ ds
digits_stay [] h = refl
digits_stay (c ∷ cs) h = let range = digit_at (c ∷ cs) 0 h (omega arith) in ap₂ (λ b bs. b ∷ bs) (small c (omega (arith, range))) (digits_stay cs h.1)

caseless-parts : (names : List (List ℕ)) (table : Table) → table.arity < 2 ^ 64 → caseless_name names table ≡ map to_ascii_lowercase (name_text names table.name) ++ 47 ∷ decimal table.arity
caseless-parts names table h =
    map-append to_ascii_lowercase (name_text names table.name ++ codes "/") (decimal table.arity) ∙
    (ap₂ (λ l m. l ++ m) (map-append to_ascii_lowercase (name_text names table.name) (codes "/")) (digits_stay (decimal table.arity) (decimal_is_IsNumeral table.arity h).0.1) ∙
    append_assoc (map to_ascii_lowercase (name_text names table.name)) (47 ∷ []) (decimal table.arity))

-- two such names are one exactly where the texts are, and the arities
pub caseless-same : (names : List (List ℕ)) (a b : Table) → a.arity < 2 ^ 64 → a.arity ≡ b.arity → map to_ascii_lowercase (name_text names a.name) ≡ map to_ascii_lowercase (name_text names b.name) →
    caseless_name names a ≡ caseless_name names b
caseless-same names a b h arities texts =
    let k : b.arity < 2 ^ 64 = omega arith in
    caseless-parts names a h ∙ (ap₂ (λ (t : List ℕ) (n : ℕ). t ++ 47 ∷ decimal n) texts arities ∙ sym (caseless-parts names b k))

pub caseless-tells : (names : List (List ℕ)) (a b : Table) → a.arity < 2 ^ 64 → b.arity < 2 ^ 64 → caseless_name names a ≡ caseless_name names b →
    (map to_ascii_lowercase (name_text names a.name) ≡ map to_ascii_lowercase (name_text names b.name)) × (a.arity ≡ b.arity)
caseless-tells names a b h k e =
    let one = slash_apart (map to_ascii_lowercase (name_text names a.name)) (map to_ascii_lowercase (name_text names b.name)) (decimal a.arity) (decimal b.arity) (decimal_run a.arity h) (decimal_run b.arity k)
    (sym (caseless-parts names a h) ∙ (e ∙ caseless-parts names b k)) in
    (one.front, decimal_injective a.arity b.arity h k one.rest)
