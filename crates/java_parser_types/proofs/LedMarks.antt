-- From the places of some tokens to those behind what was read.
use Rattle.std.proofs.Common.{◌≡◌, ℕ, Bool, true, false, List, [], ◌∷◌, ◌++◌, Some, None, if◌then◌else◌, refl}
use Rattle.std.proofs.Common.{ap, sym, subst, Result, Ok, Err, IfOk}
use Rattle.racer_base.specs.declared.ids.Place.{Place}
use Rattle.java_lexer.specs.declared.token.Token.{Token}
use Rattle.java_tree.specs.declared.words.Spelled.{Spelled}
use Rattle.java_tree.specs.KeptPlaces.{Places, is_kept, place_onto, kept}
use Rattle.java_tree.specs.KeptPlaces.{Marks, some_onto, each_marks, no_place, no_name, AreAt}
use Rattle.java_parser_types.specs.Tokens.{spelled}
use Rattle.java_parser_types.specs.declared.error.ReadError.{ReadError}
use Rattle.java_parser_types.specs.LedPlaces.{Leads, LeadsOn}

-- ---- one more

each_push : {A : Type 0} (marks : A → Marks → Marks) (xs : List A) (x : A) (rest : Marks)
    → each_marks marks (xs ++ x ∷ []) rest ≡ each_marks marks xs (marks x rest)
each_push marks [] x rest = refl
each_push marks (y ∷ ys) x rest = ap (marks y) (each_push marks ys x rest)

pub one_led : {A : Type 0} (marks : A → Marks → Marks) (xs : List A) (x : A) (here at left : Places)
    → Leads (each_marks marks xs) here at → Leads (marks x) at left → Leads (each_marks marks (xs ++ x ∷ [])) here left
one_led marks xs x here at left so_far read =
    λ rest a. rw (each_push marks xs x rest) (so_far (marks x rest) (read rest a))

-- what leads on from here leads on from the same places
pub from_equal : (read : Marks → Marks) (here at left : Places) → at ≡ here → Leads read at left → Leads read here left
from_equal read here at left same led = subst (λ (ps : Places). Leads read ps left) same led

-- ---- tokens and places

by_kept : (b : Bool) (p : Place) (ps : Places) (rest : Marks) → AreAt rest ps → AreAt (if b then None ∷ rest else
    rest) (if b then p ∷ ps else ps)
by_kept true p ps rest a = a
by_kept false p ps rest a = a

-- the place of this token is not kept
pub place_led : (t : Spelled) (p : Place) (ps here : Places) → place_onto t.kind t.text p ps ≡ here
    → Leads (no_place t) here ps
place_led t p ps here e =
    λ rest a. subst (λ (qs : Places). AreAt (no_place t rest) qs) e (by_kept (is_kept t.kind t.text) p ps rest a)

pub name_led : (x : List ℕ) (p : Place) (ps here : Places) → p ∷ ps ≡ here → Leads (no_name x) here ps
name_led x p ps here e = λ rest a. subst (λ (qs : Places). AreAt (None ∷ rest) qs) e a

pub token_led : (t : Token) (ts us : List Token) (copy : Spelled) → t ∷ ts ≡ us → Some (spelled t) ≡ Some copy
    → Leads (no_place copy) (kept us) (kept ts)
token_led t ts us copy e same =
    let c : spelled t ≡ copy = cc in
    subst (λ (u : Spelled). Leads (no_place u) (kept us) (kept ts)) c (place_led (spelled t) t.place (kept ts)
    (kept us) (ap kept e))

some_at : (qs ps : Places) (rest : Marks) → AreAt rest ps → AreAt (some_onto qs rest) (qs ++ ps)
some_at [] ps rest a = a
some_at (q ∷ qs) ps rest a = (refl, some_at qs ps rest a)

-- these places are kept
pub some_led : (qs ps here : Places) → qs ++ ps ≡ here → Leads (some_onto qs) here ps
some_led qs ps here e = λ rest a. subst (λ (rs : Places). AreAt (some_onto qs rest) rs) e (some_at qs ps rest a)

-- ---- one after the other

pub both_led : (f g : Marks → Marks) (here at left : Places) → Leads f here at → Leads g at left
    → Leads (λ rest. f (g rest)) here left
both_led f g here at left first second = λ rest a. first (g rest) (second rest a)

-- tokens whose places are those of others
pub to_equal : (read : Marks → Marks) (here left end : Places) → end ≡ left → Leads read here left
    → Leads read here end
to_equal read here left end same led = subst (λ (ps : Places). Leads read here ps) (sym same) led

-- a part behind what was read before
pub part_led : (f g : Marks → Marks) (here left : Places) → Leads g here left → LeadsOn f (λ rest. f (g rest)) here left
part_led f g here left led = λ start before rest a. before (g rest) (led rest a)

-- what the call at the end gave of what was led to
pub led_on : {A : Type 0} (r : Result A ReadError) (whole : A → Marks → Marks) (left : A → Places)
    (before : Marks → Marks) (here at : Places) → Leads before here at
    → IfOk r (λ x. LeadsOn before (whole x) at (left x)) → IfOk r (λ x. Leads (whole x) here (left x))
led_on (Ok x) whole left before here at led on = on here led
led_on (Err e) whole left before here at led on = tt

pub led_through : {A : Type 0} (r : Result A ReadError) (whole : A → Marks → Marks) (left : A → Places)
    (first before : Marks → Marks) (here at : Places) → LeadsOn first before here at
    → IfOk r (λ x. LeadsOn before (whole x) at (left x)) → IfOk r (λ x. LeadsOn first (whole x) here (left x))
led_through (Ok x) whole left first before here at led on = λ start given. on start (led start given)
led_through (Err e) whole left first before here at led on = tt

-- what was read of tokens whose places are those of others
pub read_from : {A : Type 0} (r : Result A ReadError) (whole : A → Marks → Marks) (left : A → Places) (here at : Places)
    → at ≡ here → IfOk r (λ x. Leads (whole x) at (left x)) → IfOk r (λ x. Leads (whole x) here (left x))
read_from r whole left here at same led = subst (λ (ps : Places). IfOk r (λ x. Leads (whole x) ps (left x))) same led

-- what was made of parts that were led to
pub led_made : {A : Type 0} (r : Result A ReadError) (whole : A → Marks → Marks) (left : A → Places)
    (puts : Marks → Marks) (here at : Places) → Leads puts here at
    → IfOk r (λ x. (marks : Marks) → whole x marks ≡ puts marks) → IfOk r (λ x. left x ≡ at)
    → IfOk r (λ x. Leads (whole x) here (left x))
led_made (Ok x) whole left puts here at led same behind =
    λ rest a. subst (λ (marks : Marks). AreAt marks here) (sym (same rest))
    (led rest (subst (λ (ps : Places). AreAt rest ps) behind a))
led_made (Err e) whole left puts here at led same behind = tt

pub led_made_through : {A : Type 0} (r : Result A ReadError) (whole : A → Marks → Marks) (left : A → Places)
    (first puts : Marks → Marks) (here at : Places) → LeadsOn first puts here at
    → IfOk r (λ x. (marks : Marks) → whole x marks ≡ puts marks) → IfOk r (λ x. left x ≡ at)
    → IfOk r (λ x. LeadsOn first (whole x) here (left x))
led_made_through (Ok x) whole left first puts here at led same behind =
    λ start given. led_made {A = Marks → Marks} (Ok (whole x)) (λ f. f) (λ f. left x) puts start at (led start given)
    same behind
led_made_through (Err e) whole left first puts here at led same behind = tt
