-- Tables of texts that are cut down to those with one first byte.
use Rattle.std.proofs.Common.{◌≡◌, ℕ, Bool, true, false, cond, ◌&&◌, ◌||◌, List, [], ◌∷◌, refl, sym, ap, ◌∙◌, arith}
use Rattle.std.proofs.Common.{eqb-true}
use Rattle.std.specs.Prelude.{filter, nat_eq}
use Rattle.std.specs.Cmp.Lexicographic.{pointwise}
use Rattle.std.proofs.lemmas.Bool.{false≢true, true≢false, and_parts, false_from_ne_true}
use Rattle.std.proofs.lemmas.Bool.Decides.{nat_tests}
use Rattle.racer_base.specs.Name.{is_listed, keywords}
use Rattle.java_lexer.specs.Scanning.{keywords_with, begins_with}

-- a group of the table f, at another name of its byte
pub row : (f : ℕ → List (List ℕ)) (n b : ℕ) (group : List (List ℕ)) → group ≡ f n → b ≡ n → group ≡ f b
row f n b group e is = e ∙ ap f (sym is)

abbrev pub is_empty : List (List ℕ) → Bool
is_empty [] = true
is_empty (t ∷ ts) = false

pub or_none : (v : Bool) (group : List (List ℕ)) → (v || is_empty group) ≡ true → v ≡ false → [] ≡ group
or_none true group h e = absurd (true≢false e)
or_none false [] h e = refl
or_none false (t ∷ ts) h e = absurd (false≢true h)

other_first : (t : List ℕ) (b : ℕ) (bs : List ℕ) → begins_with b t ≡ false → pointwise nat_eq (b ∷ bs) t ≡ false
other_first [] b bs h = refl
other_first (c ∷ cs) b bs h = false_from_ne_true (nat_eq b c && pointwise nat_eq bs cs) (λ e.
    let same : b ≡ c = eqb-true b c (and_parts (nat_eq b c) (pointwise nat_eq bs cs) e).0 in
    false≢true (sym h ∙ grind (arith, nat_tests)))

cut_case : (t : List ℕ) (ts : List (List ℕ)) (b : ℕ) (bs : List ℕ) (v : Bool) → begins_with b t ≡ v →
    is_listed (filter (begins_with b) ts) (b ∷ bs) ≡ is_listed ts (b ∷ bs) →
    is_listed (cond v (t ∷ filter (begins_with b) ts) (filter (begins_with b) ts)) (b ∷ bs) ≡ is_listed (t ∷ ts)
    (b ∷ bs)
cut_case t ts b bs true e ih = ap (λ (v : Bool). pointwise nat_eq (b ∷ bs) t || v) ih
cut_case t ts b bs false e ih = rw (other_first t b bs e) ih

pub cut_listed : (table : List (List ℕ)) (b : ℕ) (bs : List ℕ) →
    is_listed (filter (begins_with b) table) (b ∷ bs) ≡ is_listed table (b ∷ bs)
cut_listed [] b bs = refl
cut_listed (t ∷ ts) b bs = cut_case t ts b bs (begins_with b t) refl (cut_listed ts b bs)

pub keywords_listed : (b : ℕ) (bs : List ℕ) → is_listed (keywords_with b) (b ∷ bs) ≡ is_listed keywords (b ∷ bs)
unfolding keywords_with
keywords_listed b bs = cut_listed keywords b bs
