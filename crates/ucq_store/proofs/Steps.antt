-- The steps of a store, in the form in which its calls meet them.
use Rattle.std.proofs.Common.{false, true, ◌≡◌, ℕ, ◌+◌, ◌<◌, ◌≤◌, refl, sym, List, Option, None, Some, length, arith, subst}
use Rattle.std.specs.Option.{is_some}
use Rattle.ucq_store.specs.declared.Cut.{Cut}
use Rattle.ucq_antichain.specs.declared.Row.{Row}
use Rattle.ucq_store.specs.declared.Mark.{Mark}
use Rattle.ucq_store.specs.declared.RowState.TheVariants.{Waiting}
use Rattle.ucq_store.specs.Store.{Store, mark_at, IsRow, IsInWork, state_of, depth_of}
use Rattle.ucq_store.specs.Lawful.{IsLawful, IsLawfulByLevels, FitsLevel}
use Rattle.ucq_store.proofs.Cutting.{depths_are_small}

-- whether rows are in work, as a walk over the marks tells
pub idle_rows : (rows : List Row) (marks : List Mark) → length marks ≡ length rows →
    (((row : ℕ) × (row < length marks) × IsInWork (mark_at marks row).state) → false ≡ true) →
    (row : ℕ) → row < length rows → ¬ IsInWork (mark_at marks row).state
idle_rows rows marks fit none row l work =
    let m : row < length marks = subst (λ (n : ℕ). row < n) (sym fit) l in
    let bad : false ≡ true = none (row, m, work) in
    cc

-- an option that tests as none is none
pub none_from : (cut : Option Cut) → false ≡ is_some cut → cut ≡ None
none_from None e = refl
none_from (Some cut) e = cc

pub some_in_work : (rows : List Row) (marks : List Mark) → length marks ≡ length rows → ((row : ℕ) → row < length rows → ¬ IsInWork (mark_at marks row).state) →
    ((row : ℕ) × (row < length marks) × IsInWork (mark_at marks row).state) → ⊥
some_in_work rows marks fit none (row, l, work) =
    let m : row < length rows = subst (λ (n : ℕ). row < n) fit l in
    none row m work

-- the level is less than the place of a row that waits
pub room_above : (s : Store) (row : ℕ) → IsLawful s → IsRow s row → state_of s row ≡ Waiting → s.level + 1 ≤ row
room_above s row law l e =
    let f : depth_of s row ≡ s.level + 1 = subst (FitsLevel s.level (depth_of s row)) e (law.states_follow_levels.fit row l) in
    let small : depth_of s row ≤ row = depths_are_small s row law l in
    omega arith

-- the next level fits
pub depth_fits : (s : Store) (row : ℕ) → IsLawfulByLevels s → IsRow s row → depth_of s row ≡ s.level → s.budget ≤ 65536 → s.level + 1 ≤ 65536
depth_fits s row law l at small =
    let deep : depth_of s row ≤ row = depths_are_small s row law.lawful l in
    let within : length s.rows ≤ s.budget = law.lawful.rows_are_sound_cores.within in
    omega arith
