-- What the rows of a store tell of the facts that violate its query.
use Rattle.std.proofs.Common.{◌≡◌, ℕ, List, [], sym, ◌∙◌, subst, refl}
use Rattle.ucq_terms.specs.declared.Term.{Term}
use Rattle.ucq_terms.specs.Syntax.{Atom, Query, terms_image}
use Rattle.ucq_terms.specs.Homomorphism.{MapsInto}
use Rattle.ucq_terms.proofs.Lists.{Any-contains}
use Rattle.ucq_chase.specs.Laws.{SoundIsCarried}
use Rattle.ucq_store.specs.Store.{Store, IsRow, IsLive, query_of, IsFinished}
use Rattle.ucq_store.specs.Lawful.{IsLawful}
use Rattle.ucq_store.specs.Laws.{FinishedIsExact}
use Rattle.ucq_store.proofs.Live.{member_is_live, live_is_row}
use Rattle.ucq_bans.specs.Conflicts.{Violates}
use Rattle.ucq_bans.specs.Verdicts.{RowMaps, NoRowMaps}
use Rattle.ucq_bans.specs.inner.Images.{MapsAtoms}

no_answers : (h : ℕ → Term) (answers tuple : List Term) → answers ≡ [] → terms_image h answers ≡ tuple → tuple ≡ []
no_answers h answers tuple none e = sym e ∙ subst (λ (ts : List Term). terms_image h ts ≡ []) (sym none) refl

-- a row of a Boolean query's store is Boolean
pub row_is_boolean : (s : Store) → IsLawful s → s.problem.query.answers ≡ [] → (row : ℕ) → IsRow s row → (query_of s row).answers ≡ []
row_is_boolean s lawful boolean row here =
    let sound = (lawful.rows_are_sound_cores.each row here).sound in
    no_answers sound.maps.mapping s.problem.query.answers (query_of s row).answers boolean sound.maps.homomorphism.answers

-- so its atoms decide on its maps
pub row_maps : (s : Store) → IsLawful s → s.problem.query.answers ≡ [] → (row : ℕ) (facts : List Atom) → IsRow s row → MapsAtoms (query_of s row).atoms facts → RowMaps s row facts
row_maps s lawful boolean row facts here m = record {
  mapping = m.mapping;
  homomorphism = record {
    atoms = m.sent;
    answers = subst (λ (ts : List Term). terms_image m.mapping ts ≡ []) (sym (row_is_boolean s lawful boolean row here)) refl;
  };
}

pub atoms_map : (s : Store) (row : ℕ) (facts : List Atom) → RowMaps s row facts → MapsAtoms (query_of s row).atoms facts
atoms_map s row facts m = record { mapping = m.mapping; sent = m.homomorphism.atoms }

-- facts into which a row maps violate the query
pub mapped_violates : SoundIsCarried → (s : Store) (facts : List Atom) (row : ℕ) → IsLawful s → s.problem.query.answers ≡ [] → IsRow s row → RowMaps s row facts →
    Violates s.problem facts
mapped_violates carried s facts row lawful boolean here m = carried s.problem (query_of s row) facts [] (lawful.rows_are_sound_cores.each row here).sound m

-- a live row maps into facts that violate the query of a finished store
pub record SomeLiveMaps (s : Store) (facts : List Atom) : Type 0 where
  pub row : ℕ
  pub live : IsLive s row
  pub maps : RowMaps s row facts

pub violated_is_mapped : FinishedIsExact → (s : Store) (facts : List Atom) → IsLawful s → IsFinished s → Violates s.problem facts → SomeLiveMaps s facts
violated_is_mapped exact s facts lawful finished v =
    let found = (exact s lawful finished).complete.finds facts [] v in
    let (member, i, maps) = Any-contains (λ (m : Query). MapsInto m facts []) _ found in
    let (row, live, e) = member_is_live s.rows member i in
    record { row = row; live = live; maps = subst (λ (m : Query). MapsInto m facts []) (sym e) maps }

pub none_violates : FinishedIsExact → (s : Store) (facts : List Atom) → IsLawful s → IsFinished s → NoRowMaps s facts → ¬ Violates s.problem facts
none_violates exact s facts lawful finished none v =
    let m = violated_is_mapped exact s facts lawful finished v in
    none m.row (live_is_row s.rows m.row m.live) m.maps
