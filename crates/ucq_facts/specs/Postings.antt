-- Lists of places by keys.
use Rattle.std.specs.Prelude.{◌≡◌, ℕ, ◌-◌, Bool, List, [], ◌∷◌, ◌++◌, length, take, if◌then◌else◌}
use Rattle.std.specs.Option.{option_map_or}
use Rattle.indexmap.specs.IndexMap.{get}
use Rattle.ucq_facts.specs.declared.postings.Postings.{Postings}

module _ {K : Type 0} (eq : K → K → Bool) where
  -- the list of a key; a key without an entry has the empty list
  abbrev pub list_at : Postings K → K → List ℕ
  list_at p key = option_map_or (λ list. list.items) (get eq p.lists key) []

  -- no key has a place
  pub record AreEmpty (p : Postings K) : Type 0 where
    pub lists : (key : K) → list_at p key ≡ []

  -- each key has the list that it had
  pub record KeepsLists (before after : Postings K) : Type 0 where
    pub lists : (key : K) → list_at after key ≡ list_at before key

  -- The place stands last in the list of the key. Keys that differ from it keep their lists.
  pub record IsPushed (before : Postings K) (key : K) (place : ℕ) (after : Postings K) : Type 0 where
    pub lists : (other : K) → list_at after other ≡ (if eq key other then list_at before other ++ place ∷ [] else list_at before other)

  -- The list of the key has lost its last place, where it had one. Keys that differ from it keep their lists.
  pub record IsPopped (before : Postings K) (key : K) (after : Postings K) : Type 0 where
    pub lists : (other : K) → list_at after other ≡ (if eq key other then take (length (list_at before other) - 1) (list_at before other) else list_at before other)
