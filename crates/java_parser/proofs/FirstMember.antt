-- The first member of a class is its items up to the one that ends it, and the others are those of the items behind.
use Rattle.std.proofs.Common.{◌≡◌, ℕ, zero, suc, ◌≤◌, Bool, true, false, not, ◌&&◌, ◌||◌, List, [], ◌∷◌, ◌++◌, map}
use Rattle.std.proofs.Common.{take, drop}
use Rattle.std.proofs.Common.{length, refl, ap, sym, ◌∙◌, codes, take-append-drop, length-append, arith}
use Rattle.std.specs.Prelude.{if◌then◌else◌}
use Rattle.java_lexer.specs.declared.token.Token.{Token}
use Rattle.java_parser_grammar.specs.Tokens.{begins_sign}
use Rattle.java_parser_grammar.specs.Cuts.{onto_first, with_cut, joined}
use Rattle.java_parser_grammar.specs.Pieces.{Item, items_of}
use Rattle.java_parser_grammar.specs.Members.{ends_member, cut_members}
use Rattle.java_parser_grammar.specs.Units.{body_among}
use Rattle.java_parser.specs.Members.{member_front, behind_member, cut_of, last_inside}
use Rattle.java_parser_grammar.proofs.Joined.{joined_append, joined_items}

-- ---- on items

by_end : (b equals : Bool) (i : Item) (is : List Item) →
    ((q : Bool) (j : Item) (js : List Item) → is ≡ j ∷ js → cut_members q is
    ≡ member_front q is ∷ cut_members false (behind_member q is))
    → with_cut b i (cut_members (not b && (equals || begins_sign (codes "=") i)) is)
    ≡ (if b then i ∷ [] else i ∷ member_front (equals || begins_sign (codes "=") i) is)
    ∷ cut_members false (if b then is else behind_member (equals || begins_sign (codes "=") i) is)
by_end true equals i is others = refl
by_end false equals i [] others = refl
by_end false equals i (j ∷ js) others = ap (onto_first i) (others (equals || begins_sign (codes "=") i) j js refl)

cut_first : (equals : Bool) (i : Item) (is : List Item) → cut_members equals (i ∷ is) ≡ member_front equals (i ∷ is)
    ∷ cut_members false (behind_member equals (i ∷ is))
cut_first equals i [] = by_end (ends_member equals i) equals i [] (λ q j js e. absurd cc)
cut_first equals i (j ∷ js) = by_end (ends_member equals i) equals i (j ∷ js) (λ q k ks e. cut_first q j js)

split_by : (b : Bool) (i : Item) (is front behind : List Item) → front ++ behind ≡ is
    → (if b then i ∷ [] else i ∷ front) ++ (if b then is else behind) ≡ i ∷ is
split_by true i is front behind e = refl
split_by false i is front behind e = ap (λ l. i ∷ l) e

parts : (equals : Bool) (is : List Item) → member_front equals is ++ behind_member equals is ≡ is
parts equals [] = refl
parts equals (i ∷ is) =
    split_by (ends_member equals i) i is (member_front (equals || begins_sign (codes "=") i) is)
    (behind_member (equals || begins_sign (codes "=") i) is) (parts (equals || begins_sign (codes "=") i) is)

-- ---- on tokens

pub drop_front : {A : Type 0} (p q rest : List A) → p ++ rest ≡ q ++ rest → p ≡ q
drop_front [] [] rest e = refl
drop_front [] (y ∷ q) rest e = let n = ap length e ∙ ap suc (length-append q rest) in absurd (omega (arith, n))
drop_front (x ∷ p) [] rest e = let n = sym (ap suc (length-append p rest)) ∙ ap length e in absurd (omega (arith, n))
drop_front (x ∷ p) (y ∷ q) rest e =
    let first : x ≡ y = cc in
    let others : p ++ rest ≡ q ++ rest = cc in
    let same = drop_front p q rest others in
    cc

front_tokens : (ts : List Token) (k : ℕ) → items_of (drop k ts) ≡ behind_member false (items_of ts)
    → joined (member_front false (items_of ts)) ≡ take k ts
front_tokens ts k e =
    let is = items_of ts in
    let whole : joined (member_front false is) ++ joined (behind_member false is) ≡ ts =
    sym (joined_append (member_front false is) (behind_member false is)) ∙ ap joined (parts false is)
    ∙ joined_items 0 ts in
    let rest : joined (behind_member false is) ≡ drop k ts = ap joined (sym e) ∙ joined_items 0 (drop k ts) in
    drop_front (joined (member_front false is)) (take k ts) (drop k ts)
    (ap (λ l. joined (member_front false is) ++ l) (sym rest) ∙ whole ∙ sym (take-append-drop k ts))

cut_items : (is : List Item) (i : Item) (js : List Item) → is ≡ i ∷ js → cut_members false is ≡ member_front false is
    ∷ cut_members false (behind_member false is)
cut_items is i js e = rw e (cut_first false i js)

pub first_member : (ts : List Token) (i : Item) (js : List Item) (k : ℕ) → items_of ts ≡ i ∷ js → items_of (drop k ts)
    ≡ behind_member false (items_of ts) → cut_of ts ≡ take k ts ∷ cut_of (drop k ts)
first_member ts i js k some e =
    ap (map joined) (cut_items (items_of ts) i js some)
    ∙ ap (λ l. l ∷ map joined (cut_members false (behind_member false (items_of ts)))) (front_tokens ts k e)
    ∙ ap (λ is. take k ts ∷ map joined (cut_members false is)) (sym e)

-- ---- steps of the walk

pub ended_behind : (equals : Bool) (is js : List Item) (i : Item) → is ≡ i ∷ js → ends_member equals i ≡ true
    → js ≡ behind_member equals is
ended_behind equals is js i e h = rw (e, h) refl

pub passed_behind : (equals : Bool) (is js : List Item) (i : Item) → is ≡ i ∷ js → ends_member equals i ≡ false
    → behind_member (equals || begins_sign (codes "=") i) js ≡ behind_member equals is
passed_behind equals is js i e h = rw (e, h) refl

pub same_behind : (equals : Bool) (is js : List Item) (i : Item) → equals ≡ true → is ≡ i ∷ js
    → ends_member equals i ≡ false → behind_member equals js ≡ behind_member equals is
same_behind true is js i q e h = passed_behind true is js i e h
same_behind false is js i q e h = absurd cc

pub next_behind : (equals : Bool) (is js : List Item) (i : Item) → equals ≡ false → is ≡ i ∷ js
    → ends_member equals i ≡ false → behind_member (begins_sign (codes "=") i) js ≡ behind_member equals is
next_behind false is js i q e h = passed_behind false is js i e h
next_behind true is js i q e h = absurd cc

shorter_by : (b : Bool) (is behind : List Item) → length behind ≤ length is → length (if b then is else behind)
    ≤ length is
shorter_by true is behind h = omega arith
shorter_by false is behind h = h

no_longer : (equals : Bool) (is : List Item) → length (behind_member equals is) ≤ length is
no_longer equals [] = omega arith
no_longer equals (i ∷ is) =
    let q = equals || begins_sign (codes "=") i in
    let h = shorter_by (ends_member equals i) is (behind_member q is) (no_longer q is) in
    omega (arith, h)

shorter : (equals : Bool) (i : Item) (is : List Item) → length (behind_member equals (i ∷ is)) ≤ length is
shorter equals i is =
    let q = equals || begins_sign (codes "=") i in
    shorter_by (ends_member equals i) is (behind_member q is) (no_longer q is)

-- a member has a token
pub some_member : (ts : List Token) (i : Item) (js : List Item) (k : ℕ) → items_of ts ≡ i ∷ js
    → items_of (drop k ts) ≡ behind_member false (items_of ts) → 1 ≤ k
some_member ts i js zero some e =
    let n : length (items_of ts) ≡ length (behind_member false (i ∷ js)) = ap length e ∙ ap (λ l. length
    (behind_member false l)) some in
    let m : length (items_of ts) ≡ suc (length js) = ap length some in
    let h = shorter false i js in
    absurd (omega (arith, n, m, h))
some_member ts i js (suc k) some e = omega arith

-- ---- what stands in the last item

last_more : (last i : Item) (is : List Item) → last_inside last (i ∷ is) ≡ body_among (i ∷ is)
last_more last i [] = refl
last_more last i (j ∷ js) = last_more i j js

pub last_of_all : (is : List Item) → last_inside [] is ≡ body_among is
last_of_all [] = refl
last_of_all (i ∷ is) = last_more [] i is
