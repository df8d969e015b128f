-- A text has one statement: what two equal texts print is one.
use Rattle.std.proofs.Common.{◌≡◌, ◌≢◌, ℕ, zero, suc, ◌+◌, ◌<◌, List, [], ◌∷◌, ◌++◌, length, All, AllPairs, append_assoc, refl, sym, ap, ap₂, ◌∙◌, arith, inl, inr}
use Rattle.std.specs.Prelude.{codes, decimal}
use Rattle.std.proofs.lemmas.Bool.{cases_order}
use Rattle.ucq_terms.specs.Names.{name_text}
use Rattle.ucq_terms.proofs.Pairwise.{AllPairs-at}
use Rattle.ucq_sql.specs.declared.algebra.Column.{Column}
use Rattle.ucq_sql.specs.declared.algebra.Table.{Table}
use Rattle.ucq_sql.specs.declared.algebra.Output.{Output}
use Rattle.ucq_sql.specs.declared.algebra.Output.TheVariants.{Read, Value, One}
use Rattle.ucq_sql.specs.declared.algebra.Condition.{Condition}
use Rattle.ucq_sql.specs.declared.algebra.Condition.TheVariants.{Same, Is}
use Rattle.ucq_sql.specs.Places.{by_place}
use Rattle.ucq_sql.specs.Algebra.{Select}
use Rattle.ucq_sql.specs.Text.{alias_text, aliased_text, column_name, column_text, comma_before, condition_text, conditions_text, from_text, led_text, listed_text, member_text, name_quote, output_text, outputs_text, select_text, selects_text, statement_text, bare_name, table_name, union_before, value_quote, value_text, word_before}
use Rattle.ucq_sql.specs.Laws.{IsPrintedColumn, IsPrintedTable, IsPrintedOutput, IsPrintedCondition, IsPrinted, TableNamesTellTables, TextHasOneStatement, ValuesTellConstants}
use Rattle.ucq_sql.proofs.Reading.{heads, tails, cancel, AreOne, Begins, IsStop, space_stops, comma_stops, dot_stops, line_feed_stops, semicolon_stops, decimal_run, decimals_apart, quoted_apart, slash_apart, list_apart}

-- a byte that stops names, and one that stops values
no_name_quote : {x : List ℕ} → Begins IsStop x → Begins (λ b. b ≢ name_quote) x
no_name_quote h = record { byte = h.byte; after = h.after; is = h.is; holds = h.holds.name }

no_value_quote : {x : List ℕ} → Begins IsStop x → Begins (λ b. b ≢ value_quote) x
no_value_quote h = record { byte = h.byte; after = h.after; is = h.is; holds = h.holds.value }

-- columns
column_parts : (a b c d e x : List ℕ) → (((a ++ b) ++ c) ++ (d ++ e)) ++ x ≡ a ++ (b ++ (c ++ (d ++ (e ++ x))))
column_parts a b c d e x = simp append_assoc

column_shape : (c : Column) (x : List ℕ) → column_text c ++ x ≡ 116 ∷ (decimal c.alias ++ 46 ∷ (99 ∷ (decimal (c.column + 1) ++ x)))
column_shape c x = column_parts (codes "t") (decimal c.alias) (codes ".") (codes "c") (decimal (c.column + 1)) x

column_apart : (c d : Column) (x y : List ℕ) → IsPrintedColumn c → IsPrintedColumn d → Begins IsStop x → Begins IsStop y → column_text c ++ x ≡ column_text d ++ y → AreOne c d x y
column_apart c d x y h k i j e =
    let whole = tails (sym (column_shape c x) ∙ (e ∙ column_shape d y)) in
    let dot : (r : List ℕ) → Begins IsStop (46 ∷ r) = λ r. record { byte = 46; after = r; is = refl; holds = dot_stops } in
    let aliases = decimals_apart c.alias d.alias (46 ∷ (99 ∷ (decimal (c.column + 1) ++ x))) (46 ∷ (99 ∷ (decimal (d.column + 1) ++ y))) (omega (arith, h.alias)) (omega (arith, k.alias)) (dot (99 ∷ (decimal (c.column + 1) ++ x))) (dot (99 ∷ (decimal (d.column + 1) ++ y))) whole in
    let columns = decimals_apart (c.column + 1) (d.column + 1) x y (omega (arith, h.column)) (omega (arith, k.column)) i j (tails (tails aliases.rest)) in
    let same : c.column ≡ d.column = omega (arith, columns.front) in
    record { front = λ p. record { alias = aliases.front p; column = same p }; rest = columns.rest }

module _ (names : List (List ℕ)) (different : AllPairs (λ m n. m ≢ n) names) where
  -- names by their numbers
  numbers : (m n : ℕ) → m < length names → n < length names → name_text names m ≡ name_text names n → m ≡ n
  numbers m n h k f = elim (cases_order m n) [
    | inl g ↦ g
    | inr (inl g) ↦ absurd (differ (λ q. omega arith) f)
    | inr (inr g) ↦ absurd (differ (λ q. omega arith) f)
  ]
    where
      differ : m ≢ n → name_text names m ≡ name_text names n → ⊥
      differ other f = AllPairs-at (λ (a b : List ℕ). a ≢ b) names m n [] (λ a b g. λ f. g (sym f)) different h k other f

  -- tables and values
  pub table_apart : (a b : Table) (x y : List ℕ) → IsPrintedTable names a → IsPrintedTable names b → Begins IsStop x → Begins IsStop y → table_name names a ++ x ≡ table_name names b ++ y → AreOne a b x y
  table_apart a b x y h k i j e =
      let one = quoted_apart name_quote (bare_name names a) (bare_name names b) x y (no_name_quote i) (no_name_quote j) e in
      let whole : name_text names a.name ++ 47 ∷ decimal a.arity ≡ name_text names b.name ++ 47 ∷ decimal b.arity =
      sym (append_assoc (name_text names a.name) (47 ∷ []) (decimal a.arity)) ∙ (one.front ∙ append_assoc (name_text names b.name) (47 ∷ []) (decimal b.arity)) in
      let parts = slash_apart (name_text names a.name) (name_text names b.name) (decimal a.arity) (decimal b.arity) (decimal_run a.arity (omega (arith, h.arity))) (decimal_run b.arity (omega (arith, k.arity))) whole in
      let ends : Begins IsStop (59 ∷ []) = record { byte = 59; after = []; is = refl; holds = semicolon_stops } in
      let arities = decimals_apart a.arity b.arity (59 ∷ []) (59 ∷ []) (omega (arith, h.arity)) (omega (arith, k.arity)) ends ends (ap (λ l. l ++ 59 ∷ []) parts.rest) in
      let same = numbers a.name b.name h.name k.name parts.front in
      record { front = λ p. record { name = same p; arity = arities.front p }; rest = one.rest }

  pub value_apart : (m n : ℕ) (x y : List ℕ) → m < length names → n < length names → Begins IsStop x → Begins IsStop y → value_text names m ++ x ≡ value_text names n ++ y → AreOne m n x y
  value_apart m n x y h k i j e =
      let one = quoted_apart value_quote (name_text names m) (name_text names n) x y (no_value_quote i) (no_value_quote j) e in
      record { front = numbers m n h k one.front; rest = one.rest }

  -- outputs
  output_apart : (a b : Output) (x y : List ℕ) → IsPrintedOutput names a → IsPrintedOutput names b → Begins IsStop x → Begins IsStop y → output_text names a ++ x ≡ output_text names b ++ y → AreOne a b x y
  output_apart (Read c) (Read d) x y h k i j e = let one = column_apart c d x y h k i j e in record { front = ap Read one.front; rest = one.rest }
  output_apart (Read c) (Value n) x y h k i j e = absurd (omega (arith, heads e))
  output_apart (Read c) One x y h k i j e = absurd (omega (arith, heads e))
  output_apart (Value m) (Read d) x y h k i j e = absurd (omega (arith, heads e))
  output_apart (Value m) (Value n) x y h k i j e = let one = value_apart m n x y h k i j e in record { front = ap Value one.front; rest = one.rest }
  output_apart (Value m) One x y h k i j e = absurd (omega (arith, heads e))
  output_apart One (Read d) x y h k i j e = absurd (omega (arith, heads e))
  output_apart One (Value n) x y h k i j e = absurd (omega (arith, heads e))
  output_apart One One x y h k i j e = record { front = refl; rest = tails e }

  output_begins : (a : Output) (x y : List ℕ) → output_text names a ++ x ≡ 32 ∷ y → ⊥
  output_begins (Read c) x y e = omega (arith, heads e)
  output_begins (Value n) x y e = omega (arith, heads e)
  output_begins One x y e = omega (arith, heads e)

  regroup : (a b c d x : List ℕ) → (((a ++ b) ++ c) ++ d) ++ x ≡ a ++ (b ++ (c ++ (d ++ x)))
  regroup a b c d x = simp append_assoc

  space : (x : List ℕ) → Begins IsStop (32 ∷ x)
  space x = record { byte = 32; after = x; is = refl; holds = space_stops }

  listed_apart : (place : ℕ) (a b : Output) (x y : List ℕ) → IsPrintedOutput names a → IsPrintedOutput names b → Begins IsStop x → Begins IsStop y →
      listed_text names place a ++ x ≡ listed_text names place b ++ y → AreOne a b x y
  listed_apart place a b x y h k i j e =
      let c = column_name place in
      let whole : output_text names a ++ (codes " AS " ++ (c ++ x)) ≡ output_text names b ++ (codes " AS " ++ (c ++ y)) =
      cancel (comma_before place) _ _ (sym (regroup (comma_before place) (output_text names a) (codes " AS ") c x) ∙ (e ∙ regroup (comma_before place) (output_text names b) (codes " AS ") c y)) in
      let one = output_apart a b (codes " AS " ++ (c ++ x)) (codes " AS " ++ (c ++ y)) h k (space _) (space _) whole in
      record { front = one.front; rest = cancel c x y (cancel (codes " AS ") (c ++ x) (c ++ y) one.rest) }

  -- what ends outputs: a space
  abbrev IsSpace : List ℕ → Type 0
  IsSpace x = Begins (λ b. b ≡ 32) x

  outputs_begin : (place : ℕ) (a : Output) (x y : List ℕ) → IsPrintedOutput names a → IsSpace y → listed_text names place a ++ x ≡ y → ⊥
  outputs_begin zero a x y h k e =
      output_begins a (codes " AS " ++ (column_name 0 ++ x)) k.after (sym (regroup [] (output_text names a) (codes " AS ") (column_name 0) x) ∙ (e ∙ (k.is ∙ ap (λ b. b ∷ k.after) k.holds)))
  outputs_begin (suc place) a x y h k e = omega (arith, heads (e ∙ k.is), k.holds)

  outputs_go_on : (place : ℕ) (ps : List Output) (x : List ℕ) → IsSpace x → Begins IsStop (by_place (listed_text names) (suc place) ps ++ x)
  outputs_go_on place [] x h = record { byte = 32; after = h.after; is = h.is ∙ ap (λ b. b ∷ h.after) h.holds; holds = space_stops }
  outputs_go_on place (p ∷ ps) x h = record {
    byte = 44;
    after = 32 ∷ ((((output_text names p ++ codes " AS ") ++ column_name (suc place)) ++ by_place (listed_text names) (suc (suc place)) ps) ++ x);
    is = refl;
    holds = comma_stops;
  }

  outputs_apart : (ps qs : List Output) (x y : List ℕ) → All (IsPrintedOutput names) ps → All (IsPrintedOutput names) qs → IsSpace x → IsSpace y →
      outputs_text names ps ++ x ≡ outputs_text names qs ++ y → AreOne ps qs x y
  outputs_apart ps qs x y h k i j e = list_apart (listed_text names) (IsPrintedOutput names) (Begins IsStop) IsSpace listed_apart outputs_begin outputs_go_on 0 ps qs x y h k i j e

  -- tables, and what ends them
  record IsTablesEnd (b : ℕ) : Type 0 where
    stop : IsStop b
    comma : b ≢ 44

  aliased_apart : (place : ℕ) (a b : Table) (x y : List ℕ) → IsPrintedTable names a → IsPrintedTable names b → Begins IsStop x → Begins IsStop y →
      aliased_text names place a ++ x ≡ aliased_text names place b ++ y → AreOne a b x y
  aliased_apart place a b x y h k i j e =
      let c = alias_text place in
      let whole : table_name names a ++ (codes " AS " ++ (c ++ x)) ≡ table_name names b ++ (codes " AS " ++ (c ++ y)) =
      cancel (comma_before place) _ _ (sym (regroup (comma_before place) (table_name names a) (codes " AS ") c x) ∙ (e ∙ regroup (comma_before place) (table_name names b) (codes " AS ") c y)) in
      let one = table_apart a b (codes " AS " ++ (c ++ x)) (codes " AS " ++ (c ++ y)) h k (space _) (space _) whole in
      record { front = one.front; rest = cancel c x y (cancel (codes " AS ") (c ++ x) (c ++ y) one.rest) }

  tables_begin : (place : ℕ) (a : Table) (x y : List ℕ) → IsPrintedTable names a → Begins IsTablesEnd y → aliased_text names place a ++ x ≡ y → ⊥
  tables_begin zero a x y h k e = k.holds.stop.name (heads (sym k.is ∙ sym e))
  tables_begin (suc place) a x y h k e = k.holds.comma (heads (sym k.is ∙ sym e))

  tables_go_on : (place : ℕ) (ps : List Table) (x : List ℕ) → Begins IsTablesEnd x → Begins IsStop (by_place (aliased_text names) (suc place) ps ++ x)
  tables_go_on place [] x h = record { byte = h.byte; after = h.after; is = h.is; holds = h.holds.stop }
  tables_go_on place (p ∷ ps) x h = record {
    byte = 44;
    after = 32 ∷ ((((table_name names p ++ codes " AS ") ++ alias_text (suc place)) ++ by_place (aliased_text names) (suc (suc place)) ps) ++ x);
    is = refl;
    holds = comma_stops;
  }

  from_apart : (ps qs : List Table) (x y : List ℕ) → All (IsPrintedTable names) ps → All (IsPrintedTable names) qs → Begins IsTablesEnd x → Begins IsTablesEnd y →
      from_text names ps ++ x ≡ from_text names qs ++ y → AreOne ps qs x y
  from_apart ps qs x y h k i j e = list_apart (aliased_text names) (IsPrintedTable names) (Begins IsStop) (Begins IsTablesEnd) aliased_apart tables_begin tables_go_on 0 ps qs x y h k i j e

  -- conditions, and what ends them
  record IsConditionsEnd (b : ℕ) : Type 0 where
    stop : IsStop b
    space_not : b ≢ 32
    comma : b ≢ 44

  condition_parts : (a b c x : List ℕ) → ((a ++ b) ++ c) ++ x ≡ a ++ (b ++ (c ++ x))
  condition_parts a b c x = simp append_assoc

  equals : (x : List ℕ) → Begins IsStop (codes " = " ++ x)
  equals x = space (codes "= " ++ x)

  condition_apart : (a b : Condition) (x y : List ℕ) → IsPrintedCondition names a → IsPrintedCondition names b → Begins IsStop x → Begins IsStop y →
      condition_text names a ++ x ≡ condition_text names b ++ y → AreOne a b x y
  condition_apart (Same a b) (Same c d) x y h k i j e =
      let whole = sym (condition_parts (column_text a) (codes " = ") (column_text b) x) ∙ (e ∙ condition_parts (column_text c) (codes " = ") (column_text d) y) in
      let one = column_apart a c (codes " = " ++ (column_text b ++ x)) (codes " = " ++ (column_text d ++ y)) h.0 k.0 (equals _) (equals _) whole in
      let other = column_apart b d x y h.1 k.1 i j (cancel (codes " = ") _ _ one.rest) in
      record { front = ap₂ Same one.front other.front; rest = other.rest }
  condition_apart (Is a m) (Is c n) x y h k i j e =
      let whole = sym (condition_parts (column_text a) (codes " = ") (value_text names m) x) ∙ (e ∙ condition_parts (column_text c) (codes " = ") (value_text names n) y) in
      let one = column_apart a c (codes " = " ++ (value_text names m ++ x)) (codes " = " ++ (value_text names n ++ y)) h.0 k.0 (equals _) (equals _) whole in
      let other = value_apart m n x y h.1 k.1 i j (cancel (codes " = ") _ _ one.rest) in
      record { front = ap₂ Is one.front other.front; rest = other.rest }
  condition_apart (Same a b) (Is c n) x y h k i j e =
      let whole = sym (condition_parts (column_text a) (codes " = ") (column_text b) x) ∙ (e ∙ condition_parts (column_text c) (codes " = ") (value_text names n) y) in
      let one = column_apart a c (codes " = " ++ (column_text b ++ x)) (codes " = " ++ (value_text names n ++ y)) h.0 k.0 (equals _) (equals _) whole in
      let rest : column_text b ++ x ≡ value_text names n ++ y = cancel (codes " = ") _ _ one.rest in absurd (omega (arith, heads rest))
  condition_apart (Is a m) (Same c d) x y h k i j e =
      let whole = sym (condition_parts (column_text a) (codes " = ") (value_text names m) x) ∙ (e ∙ condition_parts (column_text c) (codes " = ") (column_text d) y) in
      let one = column_apart a c (codes " = " ++ (value_text names m ++ x)) (codes " = " ++ (column_text d ++ y)) h.0 k.0 (equals _) (equals _) whole in
      let rest : value_text names m ++ x ≡ column_text d ++ y = cancel (codes " = ") _ _ one.rest in absurd (omega (arith, heads rest))

  led_apart : (place : ℕ) (a b : Condition) (x y : List ℕ) → IsPrintedCondition names a → IsPrintedCondition names b → Begins IsStop x → Begins IsStop y →
      led_text names place a ++ x ≡ led_text names place b ++ y → AreOne a b x y
  led_apart place a b x y h k i j e =
      condition_apart a b x y h k i j
      (cancel (word_before place) _ _ (sym (append_assoc (word_before place) (condition_text names a) x) ∙ (e ∙ append_assoc (word_before place) (condition_text names b) y)))

  conditions_begin : (place : ℕ) (a : Condition) (x y : List ℕ) → IsPrintedCondition names a → Begins IsConditionsEnd y → led_text names place a ++ x ≡ y → ⊥
  conditions_begin zero a x y h k e = k.holds.space_not (heads (sym k.is ∙ sym e))
  conditions_begin (suc place) a x y h k e = k.holds.space_not (heads (sym k.is ∙ sym e))

  conditions_go_on : (place : ℕ) (ps : List Condition) (x : List ℕ) → Begins IsConditionsEnd x → Begins IsStop (by_place (led_text names) (suc place) ps ++ x)
  conditions_go_on place [] x h = record { byte = h.byte; after = h.after; is = h.is; holds = h.holds.stop }
  conditions_go_on place (p ∷ ps) x h = space ((codes "AND " ++ condition_text names p ++ by_place (led_text names) (suc (suc place)) ps) ++ x)

  conditions_apart : (ps qs : List Condition) (x y : List ℕ) → All (IsPrintedCondition names) ps → All (IsPrintedCondition names) qs → Begins IsConditionsEnd x → Begins IsConditionsEnd y →
      conditions_text names 0 ps ++ x ≡ conditions_text names 0 qs ++ y → AreOne ps qs x y
  conditions_apart ps qs x y h k i j e =
      list_apart (led_text names) (IsPrintedCondition names) (Begins IsStop) (Begins IsConditionsEnd) led_apart conditions_begin conditions_go_on 0 ps qs x y h k i j e

  -- selects
  tables_end : (ps : List Condition) (x : List ℕ) → Begins IsConditionsEnd x → Begins IsTablesEnd (conditions_text names 0 ps ++ x)
  tables_end [] x h = record { byte = h.byte; after = h.after; is = h.is; holds = record { stop = h.holds.stop; comma = h.holds.comma } }
  tables_end (p ∷ ps) x h = record {
    byte = 32;
    after = (codes "WHERE " ++ condition_text names p ++ by_place (led_text names) 1 ps) ++ x;
    is = refl;
    holds = record { stop = space_stops; comma = λ e. omega arith };
  }

  select_parts : (a b c d e x : List ℕ) → ((((a ++ b) ++ c) ++ d) ++ e) ++ x ≡ a ++ (b ++ (c ++ (d ++ (e ++ x))))
  select_parts a b c d e x = simp append_assoc

  select_shape : (s : Select) (x : List ℕ) →
      select_text names s ++ x ≡ codes "SELECT DISTINCT " ++ (outputs_text names s.outputs ++ (codes " FROM " ++ (from_text names s.from ++ (conditions_text names 0 s.conditions ++ x))))
  select_shape s x = select_parts (codes "SELECT DISTINCT ") (outputs_text names s.outputs) (codes " FROM ") (from_text names s.from) (conditions_text names 0 s.conditions) x

  select_apart : (a b : Select) (x y : List ℕ) → IsPrinted names a → IsPrinted names b → Begins IsConditionsEnd x → Begins IsConditionsEnd y → select_text names a ++ x ≡ select_text names b ++ y → AreOne a b x y
  select_apart a b x y h k i j e =
      let whole = cancel (codes "SELECT DISTINCT ") _ _ (sym (select_shape a x) ∙ (e ∙ select_shape b y)) in
      let from_a = from_text names a.from ++ (conditions_text names 0 a.conditions ++ x) in
      let from_b = from_text names b.from ++ (conditions_text names 0 b.conditions ++ y) in
      let outputs = outputs_apart a.outputs b.outputs (codes " FROM " ++ from_a) (codes " FROM " ++ from_b) h.outputs k.outputs
      (record { byte = 32; after = codes "FROM " ++ from_a; is = refl; holds = refl }) (record { byte = 32; after = codes "FROM " ++ from_b; is = refl; holds = refl }) whole in
      let from = from_apart a.from b.from (conditions_text names 0 a.conditions ++ x) (conditions_text names 0 b.conditions ++ y) h.from k.from (tables_end a.conditions x i) (tables_end b.conditions y j)
      (cancel (codes " FROM ") from_a from_b outputs.rest) in
      let conditions = conditions_apart a.conditions b.conditions x y h.conditions k.conditions i j from.rest in
      record { front = λ p. record { outputs = outputs.front p; from = from.front p; conditions = conditions.front p }; rest = conditions.rest }

  member_apart : (place : ℕ) (a b : Select) (x y : List ℕ) → IsPrinted names a → IsPrinted names b → Begins IsConditionsEnd x → Begins IsConditionsEnd y → member_text names place a ++ x ≡ member_text names place b ++ y → AreOne a b x y
  member_apart place a b x y h k i j e =
      select_apart a b x y h k i j
      (cancel (union_before place) _ _ (sym (append_assoc (union_before place) (select_text names a) x) ∙ (e ∙ append_assoc (union_before place) (select_text names b) y)))

  abbrev IsSemicolon : List ℕ → Type 0
  IsSemicolon x = Begins (λ b. b ≡ 59) x

  selects_begin : (place : ℕ) (a : Select) (x y : List ℕ) → IsPrinted names a → IsSemicolon y → member_text names place a ++ x ≡ y → ⊥
  selects_begin zero a x y h k e = omega (arith, heads (e ∙ k.is), k.holds)
  selects_begin (suc place) a x y h k e = omega (arith, heads (e ∙ k.is), k.holds)

  selects_go_on : (place : ℕ) (ps : List Select) (x : List ℕ) → IsSemicolon x → Begins IsConditionsEnd (by_place (member_text names) (suc place) ps ++ x)
  selects_go_on place [] x h = record {
    byte = 59;
    after = h.after;
    is = h.is ∙ ap (λ b. b ∷ h.after) h.holds;
    holds = record { stop = semicolon_stops; space_not = λ e. omega arith; comma = λ e. omega arith };
  }
  selects_go_on place (p ∷ ps) x h = record {
    byte = 10;
    after = (codes "UNION " ++ select_text names p ++ by_place (member_text names) (suc (suc place)) ps) ++ x;
    is = refl;
    holds = record { stop = line_feed_stops; space_not = λ e. omega arith; comma = λ e. omega arith };
  }

  statement_apart : (ps qs : List Select) (x y : List ℕ) → All (IsPrinted names) ps → All (IsPrinted names) qs → statement_text names ps ++ x ≡ statement_text names qs ++ y → AreOne ps qs x y
  statement_apart ps qs x y h k e =
      let whole = sym (append_assoc (selects_text names ps) (codes ";\n") x) ∙ (e ∙ append_assoc (selects_text names qs) (codes ";\n") y) in
      let one = list_apart (member_text names) (IsPrinted names) (Begins IsConditionsEnd) IsSemicolon member_apart selects_begin selects_go_on 0 ps qs (codes ";\n" ++ x) (codes ";\n" ++ y) h k
      (record { byte = 59; after = 10 ∷ x; is = refl; holds = refl }) (record { byte = 59; after = 10 ∷ y; is = refl; holds = refl }) whole in
      record { front = one.front; rest = cancel (codes ";\n") x y one.rest }

pub text_has_one_statement : TextHasOneStatement
text_has_one_statement names a b x y different h k e = let one = statement_apart names different a b x y h k e in (one.front, one.rest)

semicolon : Begins IsStop (59 ∷ [])
semicolon = record { byte = 59; after = []; is = refl; holds = semicolon_stops }

pub table_names_tell_tables : TableNamesTellTables
table_names_tell_tables names a b different h k e =
    let one = table_apart names different a b (59 ∷ []) (59 ∷ []) h k semicolon semicolon (ap (λ l. l ++ 59 ∷ []) e) in one.front

pub values_tell_constants : ValuesTellConstants
values_tell_constants names m n different h k e =
    let one = value_apart names different m n (59 ∷ []) (59 ∷ []) h k semicolon semicolon (ap (λ l. l ++ 59 ∷ []) e) in one.front
