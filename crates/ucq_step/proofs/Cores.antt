-- Cores that serve for equivalent queries.
use Rattle.std.proofs.Common.{List, Contains, sym, subst, inl, inr, ⊎_elim}
use Rattle.ucq_terms.specs.Syntax.{Query}
use Rattle.ucq_terms.specs.Homomorphism.{IsCore, IsCoreOf, IsEquivalent, AreIsomorphic}
use Rattle.ucq_terms.proofs.Maps.{Covers-refl, Covers-trans}
use Rattle.ucq_fold.proofs.Renamings.{Covers-forth, Covers-back}
use Rattle.ucq_step.specs.Kept.{HasKept, HasEquivalent, AreMore, HasCore, HaveCores, HasAddedCore}

pub IsEquivalent-isomorphic : (a b : Query) → AreIsomorphic a b → IsEquivalent a b
IsEquivalent-isomorphic a b i = record { forth = Covers-forth a b i; back = Covers-back a b i }

IsEquivalent-sym : (a b : Query) → IsEquivalent a b → IsEquivalent b a
IsEquivalent-sym a b e = record { forth = e.back; back = e.forth }

-- equivalent queries have the same cores
IsCoreOf-equivalent : (a b core : Query) → IsEquivalent a b → IsCoreOf b core → IsCoreOf a core
IsCoreOf-equivalent a b core e c = record {
  core = c.core;
  equivalent = record {
    forth = Covers-trans a b core e.forth c.equivalent.forth;
    back = Covers-trans core b a c.equivalent.back e.back;
  };
}

HasCore-more : (cores more : List Query) (query : Query) → ((other : Query) → Contains cores other → Contains more other) → HasCore cores query → HasCore more query
HasCore-more cores more query f h = record { core = h.core; among = f h.core h.among; shrunk = h.shrunk }

HasCore-equivalent : (cores : List Query) (a b : Query) → IsEquivalent a b → HasCore cores b → HasCore cores a
HasCore-equivalent cores a b e h = record { core = h.core; among = h.among; shrunk = IsCoreOf-equivalent a b h.core e h.shrunk }

-- a query that is a core is its own
pub IsCoreOf-itself : (query : Query) → IsCore query → IsCoreOf query query
IsCoreOf-itself query c = record { core = c; equivalent = record { forth = Covers-refl query; back = Covers-refl query } }

-- A form is kept, which is the query but for names and order.
pub AreMore-kept : (before after : List Query) (query form : Query) → AreIsomorphic query form → HasKept before form after → AreMore before query after
AreMore-kept before after query form i k = record {
  only = λ other c. ⊎_elim (λ j. inl j) (λ e. inr (subst (IsEquivalent query) (sym e) (IsEquivalent-isomorphic query form i))) (k.only other c);
}

pub AreMore-none : (forms : List Query) (query : Query) → AreMore forms query forms
AreMore-none forms query = record { only = λ other c. inl c }

pub HasEquivalent-held : (forms : List Query) (query form : Query) → AreIsomorphic query form → Contains forms form → HasEquivalent forms query
HasEquivalent-held forms query form i c = record { other = form; among = c; equivalent = IsEquivalent-isomorphic query form i }

-- where the query has a core, the forms still have theirs
HaveCores-more : (forms more cores next : List Query) (query : Query) → HaveCores forms cores → AreMore forms query more →
    ((other : Query) → Contains cores other → Contains next other) → HasCore next query → HaveCores more next
HaveCores-more forms more cores next query h m f c = record {
  each = λ form i. ⊎_elim (λ j. HasCore-more cores next form f (h.each form j))
      (λ e. HasCore-equivalent next form query (IsEquivalent-sym query form e) c) (m.only form i);
}

-- An equivalent query has a core.
HasCore-met : (forms cores : List Query) (query : Query) → HaveCores forms cores → HasEquivalent forms query → HasCore cores query
HasCore-met forms cores query h e = HasCore-equivalent cores query e.other e.equivalent (h.each e.other e.among)

pub HaveCores-met : (forms more cores : List Query) (query : Query) → HaveCores forms cores → AreMore forms query more → HasEquivalent forms query → HaveCores more cores
HaveCores-met forms more cores query h m e = HaveCores-more forms more cores cores query h m (λ other c. c) (HasCore-met forms cores query h e)

pub HasAddedCore-met : (forms cores : List Query) (query : Query) → HaveCores forms cores → HasEquivalent forms query → HasAddedCore cores query cores
HasAddedCore-met forms cores query h e = record { kept = λ other c. c; there = HasCore-met forms cores query h e; only = λ other c. inl c }

-- The query's own core is kept.
HasCore-kept : (cores next : List Query) (query core : Query) → IsCoreOf query core → HasKept cores core next → HasCore next query
HasCore-kept cores next query core c k = record { core = core; among = k.there; shrunk = c }

pub HaveCores-kept : (forms more cores next : List Query) (query core : Query) → HaveCores forms cores → AreMore forms query more → IsCoreOf query core →
    HasKept cores core next → HaveCores more next
HaveCores-kept forms more cores next query core h m c k = HaveCores-more forms more cores next query h m k.kept (HasCore-kept cores next query core c k)

pub HasAddedCore-kept : (cores next : List Query) (query core : Query) → IsCoreOf query core → HasKept cores core next → HasAddedCore cores query next
HasAddedCore-kept cores next query core c k = record {
  kept = k.kept;
  there = HasCore-kept cores next query core c k;
  only = λ other i. ⊎_elim (λ j. inl j) (λ e. inr (subst (IsCoreOf query) (sym e) c)) (k.only other i);
}

pub HaveCores-none : (cores : List Query) (forms : List Query) → ((form : Query) → Contains forms form → ⊥) → HaveCores forms cores
HaveCores-none cores forms f = record { each = λ form c. absurd (f form c) }
