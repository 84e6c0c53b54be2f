-- A type that is read is formed, small, and spelled by what was taken.
use Rattle.std.proofs.Common.{◌≡◌, ℕ, zero, suc, ◌≤◌, false, List, [], ◌∷◌, length, Option}
use Rattle.std.proofs.Common.{IsTrue, refl, ap, ◌∙◌, arith, codes}
use Rattle.std.proofs.lemmas.Bool.{false≢true, or_parts}
use Rattle.java_tree.specs.declared.words.Spelled.{Spelled}
use Rattle.java_tree.specs.Words.{sign, keyword, identifier}
use Rattle.java_tree.specs.Trees.{Ty, Typed, Base, Plain, Named, Parts, no_part, part_then, Part, Bare, Generic}
use Rattle.java_tree.specs.Trees.{Arguments, Angled, no_argument, argument_then, Argument, pack_parts}
use Rattle.java_tree.specs.Trees.{pack_arguments}
use Rattle.java_tree.specs.Spelling.{ty_onto, base_onto, parts_onto, more_parts_onto, part_onto, angled_onto}
use Rattle.java_tree.specs.Spelling.{more_arguments_onto, argument_onto}
use Rattle.java_tree.specs.Formed.{has_part, FormedTy, FormedBase, FormedParts}
use Rattle.java_tree.specs.Formed.{FormedPart, FormedAngled, FormedArguments, FormedArgument, FormedLastPart}
use Rattle.java_tree.specs.Formed.{FormedClassParts}
use Rattle.java_tree.specs.Nesting.{ty_nesting, base_nesting, parts_nesting, part_nesting, angled_nesting}
use Rattle.java_tree.specs.Nesting.{arguments_nesting, argument_nesting}
use Rattle.java_parser_grammar.specs.Taking.{after_sign, after_keyword, after_name, after_angle, commas}
use Rattle.java_parser_grammar.specs.TypeReading.{after_plain, points, wildcard_with, argument_with, angled_with}
use Rattle.java_parser_grammar.specs.TypeReading.{part_with, base_with, arrays_behind, ty_at, after_less}
use Rattle.java_parser_grammar.specs.TypeReading.{closes_angle, tested_part_with, tested_ty_at}
use Rattle.java_parser_grammar.specs.TypeReading.{is_diamond, have_diamond, has_diamond, made_part_with}
use Rattle.java_parser_grammar.specs.TypeReading.{made_parts_with}
use Rattle.java_parser_grammar.specs.TypeReading.{made_base_with, made_base_at}
use Rattle.java_parser_grammar.proofs.FoundMadeTypes.{MadeBase}
use Rattle.java_parser_grammar.proofs.Ensuring.{Ensures, then_ensures, if_ensures, match_ensures, weaker, sign_taken}
use Rattle.java_parser_grammar.proofs.Ensuring.{keyword_taken, name_taken, plain_taken, angle_taken, brackets_are}

pub record GotTy (n : ℕ) (ts : List Spelled) (x : Ty × List Spelled) : Type 0 where
  pub formed : FormedTy x.0
  pub small : ty_nesting x.0 ≤ n
  pub spelled : ts ≡ ty_onto x.0 x.1

pub record GotArgument (n : ℕ) (ts : List Spelled) (x : Argument × List Spelled) : Type 0 where
  pub formed : FormedArgument x.0
  pub small : argument_nesting x.0 ≤ n
  pub spelled : ts ≡ argument_onto x.0 x.1

pub record GotArguments (n : ℕ) (ts : List Spelled) (x : List Argument × List Spelled) : Type 0 where
  pub formed : FormedArguments (pack_arguments x.0)
  pub small : arguments_nesting (pack_arguments x.0) ≤ n
  pub spelled : ts ≡ more_arguments_onto (pack_arguments x.0) x.1

-- type arguments behind their `<`
pub record GotAngled (n : ℕ) (ts : List Spelled) (x : Arguments × List Spelled) : Type 0 where
  pub formed : FormedAngled x.0
  pub small : angled_nesting x.0 ≤ n
  pub spelled : sign (codes "<") ∷ ts ≡ angled_onto x.0 x.1

pub record GotPart (n : ℕ) (ts : List Spelled) (x : Part × List Spelled) : Type 0 where
  pub formed : FormedPart x.0
  pub small : part_nesting x.0 ≤ n
  pub spelled : ts ≡ part_onto x.0 x.1

pub record GotParts (n : ℕ) (ts : List Spelled) (x : List Part × List Spelled) : Type 0 where
  pub formed : FormedParts (pack_parts x.0)
  pub small : parts_nesting (pack_parts x.0) ≤ n
  pub spelled : ts ≡ more_parts_onto (pack_parts x.0) x.1

pub record GotBase (n : ℕ) (ts : List Spelled) (x : Base × List Spelled) : Type 0 where
  pub formed : FormedBase x.0
  pub small : base_nesting x.0 ≤ n
  pub spelled : ts ≡ base_onto x.0 x.1

-- ---- type arguments and parts

module _ (n : ℕ) (read : List Spelled → Option (Ty × List Spelled)) (sound : (ts : List Spelled)
    → Ensures (GotTy n ts) (read ts)) where
  wildcard_sound : (ts r : List Spelled) → ts ≡ sign (codes "?") ∷ r → Ensures (GotArgument n ts) (wildcard_with read r)
  wildcard_sound ts r e =
      match_ensures _ (GotArgument n ts) (after_keyword (codes "extends") r) _ _ (keyword_taken (codes "extends") r)
      (match_ensures _ (GotArgument n ts) (after_keyword (codes "super") r) _ _ (keyword_taken (codes "super") r)
      (record { formed = tt; small = omega arith; spelled = e })
      (λ s f. then_ensures (GotTy n s) (GotArgument n ts) (read s) _ (sound s)
      (λ t g. record {
        formed = g.formed;
        small = g.small;
        spelled = e ∙ ap (λ (u : List Spelled). sign (codes "?")
            ∷ u) (f ∙ ap (λ (u : List Spelled). keyword (codes "super") ∷ u) g.spelled);
      })))
      (λ s f. then_ensures (GotTy n s) (GotArgument n ts) (read s) _ (sound s)
      (λ t g. record {
        formed = g.formed;
        small = g.small;
        spelled = e ∙ ap (λ (u : List Spelled). sign (codes "?")
            ∷ u) (f ∙ ap (λ (u : List Spelled). keyword (codes "extends") ∷ u) g.spelled);
      }))

  argument_sound : (ts : List Spelled) → Ensures (GotArgument n ts) (argument_with read ts)
  argument_sound ts =
      match_ensures _ (GotArgument n ts) (after_sign (codes "?") ts) _ _ (sign_taken (codes "?") ts)
      (then_ensures (GotTy n ts) (GotArgument n ts) (read ts) _ (sound ts) (λ t g. record {
        formed = g.formed;
        small = g.small;
        spelled = g.spelled;
      }))
      (λ r e. wildcard_sound ts r e)

  arguments_sound : (m : ℕ) (ts : List Spelled) → Ensures (GotArguments n ts) (commas (argument_with read) m ts)
  unfolding commas
  arguments_sound zero ts = record { formed = tt; small = omega arith; spelled = refl }
  arguments_sound (suc m) ts =
      match_ensures _ (GotArguments n ts) (after_sign (codes ",") ts) _ _ (sign_taken (codes ",") ts)
      (record { formed = tt; small = omega arith; spelled = refl })
      (λ r e. then_ensures (GotArgument n r) (GotArguments n ts) (argument_with read r) _ (argument_sound r)
      (λ a g. then_ensures (GotArguments n a.1) (GotArguments n ts) (commas (argument_with read) m a.1) _
      (arguments_sound m a.1)
      (λ others h. record {
        formed = (g.formed, h.formed);
        small = omega (arith, g.small, h.small);
        spelled = e
            ∙ ap (λ (u : List Spelled). sign (codes ",") ∷ u) (g.spelled ∙ ap (argument_onto a.0) h.spelled);
      })))

  pub angled_sound : (ts : List Spelled) → Ensures (GotAngled n ts) (angled_with read ts)
  unfolding angled_with
  angled_sound ts =
      then_ensures (GotArgument n ts) (GotAngled n ts) (argument_with read ts) _ (argument_sound ts)
      (λ a g. then_ensures (GotArguments n a.1) (GotAngled n ts) (commas (argument_with read) (length a.1) a.1) _
      (arguments_sound (length a.1) a.1)
      (λ others h. then_ensures _ (GotAngled n ts) (after_angle others.1) _ (angle_taken others.1)
      (λ c k. record {
        formed = ((g.formed, h.formed), refl);
        small = omega (arith, g.small, h.small);
        spelled = ap (λ (u : List Spelled). sign (codes "<") ∷ u) (g.spelled ∙ ap (argument_onto a.0) (h.spelled
            ∙ ap (more_arguments_onto (pack_arguments others.0)) k));
      })))

  pub part_sound : (ts : List Spelled) → Ensures (GotPart n ts) (part_with read ts)
  unfolding part_with
  part_sound ts =
      let G : Part × List Spelled → Type 0 = GotPart n ts in
      then_ensures _ G (after_name ts) _ (name_taken ts)
      (λ x e. match_ensures _ G (after_sign (codes "<") x.1) _ _ (sign_taken (codes "<") x.1)
      (record { formed = tt; small = omega arith; spelled = e })
      (λ r f. then_ensures (GotAngled n r) G (angled_with read r) _ (angled_sound r)
      (λ a g. record {
        formed = g.formed;
        small = g.small;
        spelled = e ∙ ap (λ (u : List Spelled). identifier x.0 ∷ u)
            (f ∙ g.spelled);
      })))

  -- ---- what a `new` makes

  pub record GotMadePart (ts : List Spelled) (x : Part × List Spelled) : Type 0 where
    pub formed : FormedLastPart x.0
    pub whole : is_diamond x.0 ≡ false → FormedPart x.0
    pub small : part_nesting x.0 ≤ n
    pub spelled : ts ≡ part_onto x.0 x.1

  made_part_sound : (ts : List Spelled) → Ensures (GotMadePart ts) (made_part_with read ts)
  unfolding made_part_with
  made_part_sound ts =
      then_ensures _ (GotMadePart ts) (after_name ts) _ (name_taken ts)
      (λ x e. match_ensures _ (GotMadePart ts) (after_sign (codes "<") x.1) _ _ (sign_taken (codes "<") x.1)
      (record { formed = tt; whole = λ d. tt; small = omega arith; spelled = e })
      (λ r f. match_ensures _ (GotMadePart ts) (after_angle r) _ _ (angle_taken r)
      (then_ensures (GotAngled n r) (GotMadePart ts) (angled_with read r) _ (angled_sound r)
      (λ a g. generic_made ts x.0 a.0 a.1 g.formed g.small (e ∙ ap (λ (u : List Spelled). identifier x.0 ∷ u) (f
      ∙ g.spelled))))
      (λ c h. record {
        formed = tt;
        whole = λ d. absurd cc;
        small = omega arith;
        spelled = e
            ∙ ap (λ (u : List Spelled). identifier x.0 ∷ u) (f ∙ ap (λ (u : List Spelled). sign (codes "<") ∷ u) h);
      })))
    where
      generic_made : (ts : List Spelled) (x : List ℕ) (a : Arguments) (rest : List Spelled) → FormedAngled a
          → angled_nesting a ≤ n → ts ≡ identifier x ∷ angled_onto a rest → GotMadePart ts (Generic x a, rest)
      generic_made ts x (Angled list g) rest f small e =
          record { formed = f.0; whole = λ d. f; small = small; spelled = e }

  pub record GotMadeParts (ts : List Spelled) (x : List Part × List Spelled) : Type 0 where
    pub formed : FormedClassParts (pack_parts x.0)
    pub some : IsTrue (has_part (pack_parts x.0))
    pub small : parts_nesting (pack_parts x.0) ≤ n
    pub spelled : ts ≡ parts_onto (pack_parts x.0) x.1

  made_more : (p : Part) (ps : List Part) (ts r s rest : List Spelled) → FormedPart p → part_nesting p ≤ n
      → ts ≡ part_onto p r → r ≡ sign (codes ".") ∷ s → GotMadeParts s (ps, rest) → GotMadeParts ts (p ∷ ps, rest)
  made_more p [] ts r s rest f small e point g = absurd (false≢true g.some)
  made_more p (q ∷ qs) ts r s rest f small e point g =
      record {
        formed = (f, g.formed);
        some = refl;
        small = omega (arith, g.small);
        spelled = e ∙ ap (part_onto p) (point
            ∙ ap (λ (u : List Spelled). sign (codes ".") ∷ u) g.spelled);
      }

  made_parts_sound : (m : ℕ) (ts : List Spelled) → Ensures (GotMadeParts ts) (made_parts_with read m ts)
  unfolding made_parts_with
  made_parts_sound zero ts = tt
  made_parts_sound (suc m) ts =
      then_ensures (GotMadePart ts) (GotMadeParts ts) (made_part_with read ts) _ (made_part_sound ts)
      (λ p g. if_ensures (GotMadeParts ts) (is_diamond p.0) _ _
      (λ d. record { formed = g.formed; some = refl; small = omega (arith, g.small); spelled = g.spelled })
      (λ d. match_ensures _ (GotMadeParts ts) (after_sign (codes ".") p.1) _ _ (sign_taken (codes ".") p.1)
      (record { formed = g.formed; some = refl; small = omega (arith, g.small); spelled = g.spelled })
      (λ r e. then_ensures (GotMadeParts r) (GotMadeParts ts) (made_parts_with read m r) _ (made_parts_sound m r)
      (λ others h. made_more p.0 others.0 ts p.1 r others.1 (g.whole d) g.small g.spelled e
      (record { formed = h.formed; some = h.some; small = h.small; spelled = h.spelled })))))

  pub record GotMadeBase (ts : List Spelled) (x : Base × List Spelled) : Type 0 where
    pub formed : MadeBase x.0
    pub small : base_nesting x.0 ≤ n
    pub spelled : ts ≡ base_onto x.0 x.1

  pub made_base_sound : (ts : List Spelled) → Ensures (GotMadeBase ts) (made_base_with read ts)
  unfolding made_base_with
  made_base_sound ts =
      match_ensures _ (GotMadeBase ts) (after_plain ts) _ _ (plain_taken ts)
      (then_ensures (GotMadeParts ts) (GotMadeBase ts) (made_parts_with read (length ts) ts) _ (made_parts_sound
      (length ts) ts)
      (λ ps g. record { formed = (g.formed, g.some); small = g.small; spelled = g.spelled }))
      (λ p e. record { formed = e.1; small = omega arith; spelled = e.0 })

-- ---- parts with points between them

module _ (n : ℕ) (read : List Spelled → Option (Part × List Spelled)) (sound : (ts : List Spelled)
    → Ensures (GotPart n ts) (read ts)) where
  parts_sound : (m : ℕ) (ts : List Spelled) → Ensures (GotParts n ts) (points read m ts)
  unfolding points
  parts_sound zero ts = record { formed = tt; small = omega arith; spelled = refl }
  parts_sound (suc m) ts =
      match_ensures _ (GotParts n ts) (after_sign (codes ".") ts) _ _ (sign_taken (codes ".") ts)
      (record { formed = tt; small = omega arith; spelled = refl })
      (λ r e. then_ensures (GotPart n r) (GotParts n ts) (read r) _ (sound r)
      (λ p g. then_ensures (GotParts n p.1) (GotParts n ts) (points read m p.1) _ (parts_sound m p.1)
      (λ ps h. record {
        formed = (g.formed, h.formed);
        small = omega (arith, g.small, h.small);
        spelled = e
            ∙ ap (λ (u : List Spelled). sign (codes ".") ∷ u) (g.spelled ∙ ap (part_onto p.0) h.spelled);
      })))

  base_sound : (ts : List Spelled) → Ensures (GotBase n ts) (base_with read ts)
  unfolding base_with
  base_sound ts =
      match_ensures _ (GotBase n ts) (after_plain ts) _ _ (plain_taken ts)
      (then_ensures (GotPart n ts) (GotBase n ts) (read ts) _ (sound ts)
      (λ p g. then_ensures (GotParts n p.1) (GotBase n ts) (points read (length p.1) p.1) _
      (parts_sound (length p.1) p.1)
      (λ ps h. record {
        formed = ((g.formed, h.formed), refl);
        small = omega (arith, g.small, h.small);
        spelled = g.spelled
            ∙ ap (part_onto p.0) h.spelled;
      })))
      (λ p e. record { formed = e.1; small = omega arith; spelled = e.0 })

-- ---- types

arrays_sound : (n : ℕ) (ts : List Spelled) (b : Base × List Spelled) → GotBase n ts b
    → Ensures (GotTy (suc n) ts) (arrays_behind b)
arrays_sound n ts b g = record {
  formed = g.formed;
  small = omega (arith, g.small);
  spelled = g.spelled
      ∙ ap (base_onto b.0) (brackets_are (length b.1) b.1);
}

pub ty_sound : (n : ℕ) (ts : List Spelled) → Ensures (GotTy n ts) (ty_at n ts)
unfolding ty_at
ty_sound zero ts = tt
ty_sound (suc n) ts =
    then_ensures (GotBase n ts) (GotTy (suc n) ts) (base_with (part_with (ty_at n)) ts) _
    (base_sound n (part_with (ty_at n)) (part_sound n (ty_at n) (ty_sound n)) ts)
    (λ b g. arrays_sound n ts b g)

-- ---- types behind `instanceof`

less_taken : (l : ℕ) (ts : List Spelled) → Ensures (λ r. ts ≡ sign (codes "<") ∷ r) (after_less l ts)
less_taken l ts =
    then_ensures (λ r. ts ≡ sign (codes "<") ∷ r) (λ r. ts ≡ sign (codes "<") ∷ r) (after_sign (codes "<") ts) _
    (sign_taken (codes "<") ts)
    (λ r e. if_ensures (λ r. ts ≡ sign (codes "<") ∷ r) (closes_angle l 0 r) _ _ (λ c. e) (λ c. tt))

tested_part_sound : (n : ℕ) (ts : List Spelled) → Ensures (GotPart n ts) (tested_part_with n (ty_at n) ts)
unfolding tested_part_with
tested_part_sound n ts =
    then_ensures _ (GotPart n ts) (after_name ts) _ (name_taken ts)
    (λ x e. match_ensures _ (GotPart n ts) (after_less n x.1) _ _ (less_taken n x.1)
    (record { formed = tt; small = omega arith; spelled = e })
    (λ r f. then_ensures (GotAngled n r) (GotPart n ts) (angled_with (ty_at n) r) _
    (angled_sound n (ty_at n) (ty_sound n) r)
    (λ a g. record {
      formed = g.formed;
      small = g.small;
      spelled = e ∙ ap (λ (u : List Spelled). identifier x.0 ∷ u) (f ∙ g.spelled);
    })))

pub tested_sound : (n : ℕ) (ts : List Spelled) → Ensures (GotTy n ts) (tested_ty_at n ts)
unfolding tested_ty_at
tested_sound zero ts = tt
tested_sound (suc n) ts =
    then_ensures (GotBase n ts) (GotTy (suc n) ts) (base_with (tested_part_with n (ty_at n)) ts) _
    (base_sound n (tested_part_with n (ty_at n)) (tested_part_sound n) ts) (λ b g. arrays_sound n ts b g)

-- ---- what stands behind `new`

pub record GotMade (n : ℕ) (ts : List Spelled) (x : Base × List Spelled) : Type 0 where
  pub formed : MadeBase x.0
  pub small : ty_nesting (Typed x.0 0) ≤ n
  pub spelled : ts ≡ ty_onto (Typed x.0 0) x.1

pub made_sound : (n : ℕ) (ts : List Spelled) → Ensures (GotMade n ts) (made_base_at n ts)
unfolding made_base_at
made_sound zero ts = tt
made_sound (suc n) ts =
    weaker (GotMadeBase n (ty_at n) (ty_sound n) ts) (GotMade (suc n) ts) (made_base_with (ty_at n) ts)
    (λ x g. record { formed = g.formed; small = omega (arith, g.small); spelled = g.spelled })
    (made_base_sound n (ty_at n) (ty_sound n) ts)

whole_part : (p : Part) → FormedLastPart p → is_diamond p ≡ false → FormedPart p
whole_part (Bare x) f d = tt
whole_part (Generic x (Angled no_argument g)) f d = absurd cc
whole_part (Generic x (Angled (argument_then a others) g)) f d = (f, refl)

whole_parts : (ps : Parts) (p : Part) → FormedClassParts (part_then p ps) → have_diamond (part_then p ps) ≡ false
    → FormedPart p × FormedParts ps
whole_parts no_part p f d = (whole_part p f (or_parts _ _ d).0, tt)
whole_parts (part_then q qs) p f d = (f.0, whole_parts qs q f.1 (or_parts _ _ d).1)

-- what a `new` makes an array of
pub element_formed : (b : Base) → MadeBase b → has_diamond b ≡ false → FormedBase b
element_formed (Plain text) f d = f
element_formed (Named no_part) f d = absurd (false≢true f.1)
element_formed (Named (part_then p ps)) f d = (whole_parts ps p f.0 d, refl)
