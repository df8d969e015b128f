-- A file is read in one way, and so files have one meaning: an input or a refusal.
use Rattle.std.proofs.Common.{◌≡◌, ℕ, ◌+◌, List, [], ◌∷◌, ◌++◌, length, Option, Some, None, Result, refl, sym, ap, subst, ◌∙◌, append_assoc, arith, inl, inr}
use Rattle.std.specs.Prelude.{slice_index_or}
use Rattle.std.proofs.lemmas.List.{append-nil, length-append}
use Rattle.ucq_lexer.specs.declared.Token.{Token}
use Rattle.ucq_lexer.proofs.Reading.{spelling_unique, bad_byte_unique, bad_byte_or_tokens}
use Rattle.ucq_reader.specs.declared.ReadFault.{ReadFault}
use Rattle.ucq_reader.specs.declared.ReadFault.TheVariants.{BadByte, BadStatement, OpenEnd, UnknownPrefix, NotBuilt, Limit, Unsafe, TooMany, NoQuery, Memory}
use Rattle.ucq_reader.specs.Statement.{Word, dot, Statement, spelling}
use Rattle.ucq_reader.specs.File.{TakesDot, Reads, AreStatements, IsFront, IsInside, IsBadStatement, IsOpenEnd}
use Rattle.ucq_reader.specs.Meaning.{Meant, FileRead, malformed, parsed, file_fault, meaning}
use Rattle.ucq_reader.specs.Input.{words, starts, IsRead, IsGoneOn, AreRead, IsMeaning}
use Rattle.ucq_reader.proofs.Reading.{statements_unique, first_unique, longer, begins_other, spelling_nonempty}

-- no statement is read from these words
abbrev pub IsStuck : List Word → Type 0
IsStuck rest = (t : Statement) (after : List Word) → rest ≡ spelling t ++ after → TakesDot t after → ⊥

pub stuck_nil : IsStuck []
stuck_nil t after e takes = spelling_nonempty t after e

-- a front begins with no whole statement, unless it is one
not_past : (t s : Statement) (v : Word) (z after more : List Word) → TakesDot t (v ∷ after) → spelling s ≡ (spelling t ++ v ∷ z) ++ more → ⊥
not_past t s v z after more takes e =
    let l = longer t s [] (v ∷ (z ++ more)) (λ rest f leaves. takes after (ap (λ (x : Word). x ∷ after) (head v dot _ rest f)) leaves) (e ∙ append_assoc (spelling t) (v ∷ z) more) in
    none v (z ++ more) l.0
  where
    head : (x y : Word) (xs ys : List Word) → x ∷ xs ≡ y ∷ ys → x ≡ y
    head x y xs ys f = cc

    none : (x : Word) (xs : List Word) → x ∷ xs ≡ [] → ⊥
    none x xs f = cc

pub stuck_inside : (f : List Word) → IsInside f → IsStuck f
stuck_inside f (front, whole) t [] e takes = whole (t, sym (e ∙ append-nil (spelling t)))
stuck_inside f (front, whole) t (v ∷ after) e takes = not_past t front.0 v after after front.1 takes (front.2 ∙ ap (λ (xs : List Word). xs ++ front.1) e)

pub stuck_bad : (f : List Word) (w : Word) (rest : List Word) → IsInside f → ¬ IsFront (f ++ w ∷ []) → IsStuck (f ++ w ∷ rest)
stuck_bad f w rest (front, whole) bad t after e takes =
    elim (begins_other f (w ∷ rest) (spelling t) after e) [
      | inl p ↦ on_front p.0 p.1 p.2
      | inr p ↦ past p.0 p.1 p.2
    ]
  where
    on_front : (z : List Word) → spelling t ≡ f ++ z → w ∷ rest ≡ z ++ after → ⊥
    on_front [] g h = whole (t, g ∙ append-nil f)
    on_front (v ∷ vs) g h =
        let same : w ≡ v = cc in
        bad (t, vs, g ∙ (ap (λ (x : Word). f ++ x ∷ vs) (sym same) ∙ sym (append_assoc f (w ∷ []) vs)))

    past : (z : List Word) → f ≡ spelling t ++ z → after ≡ z ++ w ∷ rest → ⊥
    past [] g h = whole (t, sym (g ∙ append-nil (spelling t)))
    past (v ∷ vs) g h = not_past t front.0 v vs (vs ++ w ∷ rest) front.1 (subst (TakesDot t) h takes) (front.2 ∙ ap (λ (xs : List Word). xs ++ front.1) g)

pub reads_unique : (ws : List Word) (a b : List Statement) (x y : List Word) → Reads ws a x → Reads ws b y → IsStuck x → IsStuck y → (a ≡ b) × (x ≡ y)
reads_unique ws [] [] x y p q sx sy = (refl, sym p ∙ q)
reads_unique ws [] (t ∷ ts) x y p q sx sy = absurd (sx t q.0 (sym p ∙ q.1) q.2)
reads_unique ws (s ∷ ss) [] x y p q sx sy = absurd (sy s p.0 (sym q ∙ p.1) p.2)
reads_unique ws (s ∷ ss) (t ∷ ts) x y p q sx sy =
    let first = first_unique s t p.0 q.0 (sym p.1 ∙ q.1) p.2 q.2 in
    let rest = reads_unique p.0 ss ts x y p.3 (subst (λ (vs : List Word). Reads vs ts y) (sym first.1) q.3) sx sy in
    (ap (λ (u : Statement). u ∷ ss) first.0 ∙ ap (λ (us : List Statement). t ∷ us) rest.0, rest.1)

-- a front goes no further than the bad word
front_stops : (f : List Word) (w : Word) (rest g more : List Word) → ¬ IsFront (f ++ w ∷ []) → IsFront g → f ++ w ∷ rest ≡ g ++ more → (z : List Word) × (f ≡ g ++ z)
front_stops f w rest g more bad front e =
    elim (begins_other f (w ∷ rest) g more e) [
      | inl p ↦ on p.0 p.1 p.2
      | inr p ↦ (p.0, p.1)
    ]
  where
    regroup : (a : List Word) (x : Word) (b c : List Word) → (a ++ x ∷ b) ++ c ≡ (a ++ x ∷ []) ++ (b ++ c)
    regroup a x b c = simp append_assoc

    on : (z : List Word) → g ≡ f ++ z → w ∷ rest ≡ z ++ more → (z : List Word) × (f ≡ g ++ z)
    on [] h k = ([], sym (ap (λ (xs : List Word). xs ++ []) h ∙ (append-nil (f ++ []) ∙ append-nil f)))
    on (v ∷ vs) h k =
        let same : w ≡ v = cc in
        absurd (bad (front.0, vs ++ front.1, front.2 ∙ (ap (λ (xs : List Word). xs ++ front.1) (h ∙ ap (λ (x : Word). f ++ x ∷ vs) (sym same)) ∙ regroup f w vs front.1)))

pub bad_unique : (ws : List Word) (n m i j : ℕ) → IsBadStatement ws n i → IsBadStatement ws m j → (n ≡ m) × (i ≡ j)
bad_unique ws n m i j p q =
    let both = reads_unique ws p.before q.before (p.front ++ p.word ∷ p.rest) (q.front ++ q.word ∷ q.rest) p.reads q.reads (stuck_bad p.front p.word p.rest p.inside p.bad) (stuck_bad q.front q.word q.rest q.inside q.bad) in
    let l = front_stops p.front p.word p.rest q.front (q.word ∷ q.rest) p.bad q.inside.0 both.1 in
    let r = front_stops q.front q.word q.rest p.front (p.word ∷ p.rest) q.bad p.inside.0 (sym both.1) in (
      p.count ∙ (ap length both.0 ∙ sym q.count),
      omega (arith, p.at, q.at, ap length both.1, length-append p.front (p.word ∷ p.rest), length-append q.front (q.word ∷ q.rest), ap length l.1, ap length r.1, length-append q.front l.0, length-append p.front r.0),
    )

pub open_unique : (ws : List Word) (i j : ℕ) → IsOpenEnd ws i → IsOpenEnd ws j → i ≡ j
open_unique ws i j p q =
    let both = reads_unique ws p.before q.before p.front q.front p.reads q.reads (stuck_inside p.front p.inside) (stuck_inside q.front q.inside) in
    omega (arith, p.at, q.at, ap length both.1)

pub bad_or_open : (ws : List Word) (n i j : ℕ) → IsBadStatement ws n i → IsOpenEnd ws j → ⊥
bad_or_open ws n i j p q =
    let both = reads_unique ws p.before q.before (p.front ++ p.word ∷ p.rest) q.front p.reads q.reads (stuck_bad p.front p.word p.rest p.inside p.bad) (stuck_inside q.front q.inside) in
    let l = front_stops p.front p.word p.rest q.front [] p.bad q.inside.0 (both.1 ∙ sym (append-nil q.front)) in
    absurd (omega (arith, ap length both.1, length-append p.front (p.word ∷ p.rest), ap length l.1, length-append q.front l.0))

pub bad_or_statements : (ws : List Word) (n i : ℕ) (ss : List Statement) → IsBadStatement ws n i → AreStatements ws ss → ⊥
bad_or_statements ws n i ss p q =
    let both = reads_unique ws p.before ss (p.front ++ p.word ∷ p.rest) [] p.reads q (stuck_bad p.front p.word p.rest p.inside p.bad) stuck_nil in
    absurd (omega (arith, ap length both.1, length-append p.front (p.word ∷ p.rest)))

pub open_or_statements : (ws : List Word) (i : ℕ) (ss : List Statement) → IsOpenEnd ws i → AreStatements ws ss → ⊥
open_or_statements ws i ss p q =
    let both = reads_unique ws p.before ss p.front [] p.reads q (stuck_inside p.front p.inside) stuck_nil in
    absurd (omega (arith, ap length both.1, p.begun))

-- ---- files

pub read_unique : (file : ℕ) (text : List ℕ) (a b : FileRead) → IsRead file text a → IsRead file text b → a ≡ b
read_unique file text (parsed ss xs) (parsed ts ys) (ks, k, s, e) (ls, l, t, f) =
    let same = spelling_unique text ks ls k l in
    let statements = statements_unique (words text ks) ss ts s (subst (λ (us : List Token). AreStatements (words text us) ts) (sym same) t) in
    ap (λ (us : List Statement). parsed us xs) statements ∙ ap (λ (zs : List ℕ). parsed ts zs) (e ∙ (ap starts same ∙ sym f))
read_unique file text (parsed ss xs) (malformed (BadByte g at)) (ks, k, s, e) q = absurd (bad_byte_or_tokens text at ks q.1 k)
read_unique file text (parsed ss xs) (malformed (BadStatement g n at)) (ks, k, s, e) (q, ls, i, l, b, h) =
    absurd (bad_or_statements (words text ls) n i ss b (subst (λ (us : List Token). AreStatements (words text us) ss) (spelling_unique text ks ls k l) s))
read_unique file text (parsed ss xs) (malformed (OpenEnd g at)) (ks, k, s, e) (q, ls, i, l, b, h) =
    absurd (open_or_statements (words text ls) i ss b (subst (λ (us : List Token). AreStatements (words text us) ss) (spelling_unique text ks ls k l) s))
read_unique file text (malformed (BadByte g at)) (parsed ts ys) p (ls, l, t, f) = absurd (bad_byte_or_tokens text at ls p.1 l)
read_unique file text (malformed (BadByte g at)) (malformed (BadByte h to)) p q = ap (λ (n : ℕ). malformed (BadByte n at)) (p.0 ∙ sym q.0) ∙ ap (λ (n : ℕ). malformed (BadByte h n)) (bad_byte_unique text at to p.1 q.1)
read_unique file text (malformed (BadByte g at)) (malformed (BadStatement h n to)) p (q, ls, i, l, b, k) = absurd (bad_byte_or_tokens text at ls p.1 l)
read_unique file text (malformed (BadByte g at)) (malformed (OpenEnd h to)) p (q, ls, i, l, b, k) = absurd (bad_byte_or_tokens text at ls p.1 l)
read_unique file text (malformed (BadStatement g n at)) (parsed ts ys) (q, ls, i, l, b, h) (ks, k, s, e) =
    absurd (bad_or_statements (words text ls) n i ts b (subst (λ (us : List Token). AreStatements (words text us) ts) (spelling_unique text ks ls k l) s))
read_unique file text (malformed (BadStatement g n at)) (malformed (BadByte h to)) (q, ls, i, l, b, k) p = absurd (bad_byte_or_tokens text to ls p.1 l)
read_unique file text (malformed (BadStatement g n at)) (malformed (BadStatement h m to)) (p, ks, i, k, a, e) (q, ls, j, l, b, f) =
    let same = spelling_unique text ks ls k l in
    let places = bad_unique (words text ls) n m i j (subst (λ (us : List Token). IsBadStatement (words text us) n i) same a) b in
    ap (λ (x : ℕ). malformed (BadStatement x n at)) (p ∙ sym q) ∙ (ap (λ (x : ℕ). malformed (BadStatement h x at)) places.0 ∙ ap (λ (x : ℕ). malformed (BadStatement h m x)) (e ∙ (ap (λ (us : List Token). slice_index_or (starts us) i 0) same ∙ (ap (λ (x : ℕ). slice_index_or (starts ls) x 0) places.1 ∙ sym f))))
read_unique file text (malformed (BadStatement g n at)) (malformed (OpenEnd h to)) (p, ks, i, k, a, e) (q, ls, j, l, b, f) =
    absurd (bad_or_open (words text ls) n i j (subst (λ (us : List Token). IsBadStatement (words text us) n i) (spelling_unique text ks ls k l) a) b)
read_unique file text (malformed (OpenEnd g at)) (parsed ts ys) (q, ls, i, l, b, h) (ks, k, s, e) =
    absurd (open_or_statements (words text ls) i ts b (subst (λ (us : List Token). AreStatements (words text us) ts) (spelling_unique text ks ls k l) s))
read_unique file text (malformed (OpenEnd g at)) (malformed (BadByte h to)) (q, ls, i, l, b, k) p = absurd (bad_byte_or_tokens text to ls p.1 l)
read_unique file text (malformed (OpenEnd g at)) (malformed (BadStatement h m to)) (q, ls, j, l, b, f) (p, ks, i, k, a, e) =
    absurd (bad_or_open (words text ls) m i j (subst (λ (us : List Token). IsBadStatement (words text us) m i) (spelling_unique text ks ls k l) a) b)
read_unique file text (malformed (OpenEnd g at)) (malformed (OpenEnd h to)) (p, ks, i, k, a, e) (q, ls, j, l, b, f) =
    let same = spelling_unique text ks ls k l in
    let places = open_unique (words text ls) i j (subst (λ (us : List Token). IsOpenEnd (words text us) i) same a) b in
    ap (λ (x : ℕ). malformed (OpenEnd x at)) (p ∙ sym q) ∙ ap (λ (x : ℕ). malformed (OpenEnd h x)) (e ∙ (ap (λ (us : List Token). slice_index_or (starts us) i 0) same ∙ (ap (λ (x : ℕ). slice_index_or (starts ls) x 0) places ∙ sym f)))
read_unique file text (malformed (UnknownPrefix f at)) b p q = absurd p
read_unique file text (malformed (NotBuilt f n k)) b p q = absurd p
read_unique file text (malformed (Limit f n w c)) b p q = absurd p
read_unique file text (malformed (Unsafe f n r)) b p q = absurd p
read_unique file text (malformed (TooMany w c)) b p q = absurd p
read_unique file text (malformed NoQuery) b p q = absurd p
read_unique file text (malformed Memory) b p q = absurd p
read_unique file text (parsed ss xs) (malformed (UnknownPrefix f to)) p q = absurd q
read_unique file text (parsed ss xs) (malformed (NotBuilt f n k)) p q = absurd q
read_unique file text (parsed ss xs) (malformed (Limit f n w c)) p q = absurd q
read_unique file text (parsed ss xs) (malformed (Unsafe f n r)) p q = absurd q
read_unique file text (parsed ss xs) (malformed (TooMany w c)) p q = absurd q
read_unique file text (parsed ss xs) (malformed NoQuery) p q = absurd q
read_unique file text (parsed ss xs) (malformed Memory) p q = absurd q
read_unique file text (malformed (BadByte g at)) (malformed (UnknownPrefix f to)) p q = absurd q
read_unique file text (malformed (BadByte g at)) (malformed (NotBuilt f n k)) p q = absurd q
read_unique file text (malformed (BadByte g at)) (malformed (Limit f n w c)) p q = absurd q
read_unique file text (malformed (BadByte g at)) (malformed (Unsafe f n r)) p q = absurd q
read_unique file text (malformed (BadByte g at)) (malformed (TooMany w c)) p q = absurd q
read_unique file text (malformed (BadByte g at)) (malformed NoQuery) p q = absurd q
read_unique file text (malformed (BadByte g at)) (malformed Memory) p q = absurd q
read_unique file text (malformed (BadStatement g i at)) (malformed (UnknownPrefix f to)) p q = absurd q
read_unique file text (malformed (BadStatement g i at)) (malformed (NotBuilt f n k)) p q = absurd q
read_unique file text (malformed (BadStatement g i at)) (malformed (Limit f n w c)) p q = absurd q
read_unique file text (malformed (BadStatement g i at)) (malformed (Unsafe f n r)) p q = absurd q
read_unique file text (malformed (BadStatement g i at)) (malformed (TooMany w c)) p q = absurd q
read_unique file text (malformed (BadStatement g i at)) (malformed NoQuery) p q = absurd q
read_unique file text (malformed (BadStatement g i at)) (malformed Memory) p q = absurd q
read_unique file text (malformed (OpenEnd g at)) (malformed (UnknownPrefix f to)) p q = absurd q
read_unique file text (malformed (OpenEnd g at)) (malformed (NotBuilt f n k)) p q = absurd q
read_unique file text (malformed (OpenEnd g at)) (malformed (Limit f n w c)) p q = absurd q
read_unique file text (malformed (OpenEnd g at)) (malformed (Unsafe f n r)) p q = absurd q
read_unique file text (malformed (OpenEnd g at)) (malformed (TooMany w c)) p q = absurd q
read_unique file text (malformed (OpenEnd g at)) (malformed NoQuery) p q = absurd q
read_unique file text (malformed (OpenEnd g at)) (malformed Memory) p q = absurd q

pub are_read_unique : (file : ℕ) (texts : List (List ℕ)) (a b : List FileRead) → AreRead file texts a → AreRead file texts b → a ≡ b
are_read_unique file [] [] [] p q = refl
are_read_unique file (t ∷ ts) (a ∷ fs) (b ∷ bs) p q =
    let same : a ≡ b = read_unique file t a b p.0 q.0 in
    ap (λ (x : FileRead). x ∷ fs) same ∙ ap (λ (xs : List FileRead). b ∷ xs) (later (file_fault file b) (AreRead (file + 1) ts fs) (AreRead (file + 1) ts bs) (are_read_unique (file + 1) ts fs bs) (subst (λ (x : FileRead). IsGoneOn (file_fault file x) fs (AreRead (file + 1) ts fs)) same p.1) q.1)
  where
    later : (o : Option ReadFault) (P Q : Type 0) → (P → Q → fs ≡ bs) → IsGoneOn o fs P → IsGoneOn o bs Q → fs ≡ bs
    later (Some fault) P Q rest x y = x ∙ sym y
    later None P Q rest x y = rest x y
are_read_unique file [] (a ∷ fs) b p q = absurd p
are_read_unique file [] [] (b ∷ bs) p q = absurd q
are_read_unique file (t ∷ ts) [] b p q = absurd p
are_read_unique file (t ∷ ts) (a ∷ fs) [] p q = absurd q

pub meaning_unique : (files : List (List ℕ)) (a b : Result Meant ReadFault) → IsMeaning files a → IsMeaning files b → a ≡ b
meaning_unique files a b (fs, p, e) (gs, q, f) = e ∙ (ap meaning (are_read_unique 0 files fs gs p q) ∙ sym f)
