-- Types in angle brackets and types with a sign between them that are read are formed, small, and spelled by what was
-- taken.
use Rattle.std.proofs.Common.{◌≡◌, ℕ, ◌≤◌, List, ◌∷◌, Option, refl, ap}
use Rattle.std.proofs.Common.{◌∙◌, arith, codes}
use Rattle.java_tree.specs.declared.words.Spelled.{Spelled}
use Rattle.java_tree.specs.Words.{keyword, identifier}
use Rattle.java_tree.specs.Trees.{Arguments}
use Rattle.java_tree.specs.Spelling.{ty_onto, between_sign, maybe_angled_onto, referred_onto}
use Rattle.java_tree.specs.Formed.{FormedTy, FormedTypes, are_types}
use Rattle.java_tree.specs.Nesting.{ty_nesting, maybe_angled_nesting, most_over}
use Rattle.java_parser_grammar.specs.Taking.{after_sign, after_keyword, after_name}
use Rattle.java_parser_grammar.specs.TypeReading.{angled_with, ty_at, types_at, between_each}
use Rattle.java_parser_grammar.specs.ExpressionReading.{name_or_new_at, referred_at}
use Rattle.java_parser_grammar.proofs.Ensuring.{Ensures, then_ensures, if_ensures, match_ensures, weaker, sign_taken}
use Rattle.java_parser_grammar.proofs.Ensuring.{keyword_taken, name_taken}
use Rattle.java_parser_grammar.proofs.SoundTypes.{GotTy, GotAngled, angled_sound, ty_sound}
use Rattle.java_parser_grammar.proofs.SoundSteps.{GotOne, SomeOf, between_sound}

-- the types that the method of a call or of a reference takes
pub record GotTypes (n : ℕ) (ts : List Spelled) (x : Option Arguments × List Spelled) : Type 0 where
  pub formed : FormedTypes x.0
  pub small : maybe_angled_nesting x.0 ≤ n
  pub spelled : ts ≡ maybe_angled_onto x.0 x.1

pub types_sound : (n : ℕ) (ts : List Spelled) → Ensures (GotTypes n ts) (types_at n ts)
unfolding types_at
types_sound n ts =
    match_ensures _ (GotTypes n ts) (after_sign (codes "<") ts) _ _ (sign_taken (codes "<") ts)
    (record { formed = tt; small = omega arith; spelled = refl })
    (λ r e. then_ensures (GotAngled n r) (GotTypes n ts) (angled_with (ty_at n) r) _
    (angled_sound n (ty_at n) (ty_sound n) r)
    (λ a g. if_ensures (GotTypes n ts) (are_types a.0) _ _
    (λ are. record { formed = (g.formed, are); small = g.small; spelled = e ∙ g.spelled }) (λ are. tt)))

-- what a method reference refers to
pub record GotReferred (n : ℕ) (ts : List Spelled) (x : (Option Arguments × Option (List ℕ)) × List Spelled) : Type 0
  where
    pub formed : FormedTypes x.0.0
    pub small : maybe_angled_nesting x.0.0 ≤ n
    pub spelled : ts ≡ referred_onto x.0.0 x.0.1 x.1

name_or_new_taken : (ts : List Spelled) → Ensures (λ (x : Option (List ℕ) × List Spelled). (types : Option Arguments)
    → maybe_angled_onto types ts ≡ referred_onto types x.0 x.1) (name_or_new_at ts)
name_or_new_taken ts =
    let G : Option (List ℕ) × List Spelled → Type 0 = λ x. (types : Option Arguments) → maybe_angled_onto types ts
    ≡ referred_onto types x.0 x.1 in
    match_ensures (λ r. ts ≡ keyword (codes "new") ∷ r) G (after_keyword (codes "new") ts) _ _
    (keyword_taken (codes "new") ts)
    (then_ensures (λ x. ts ≡ identifier x.0 ∷ x.1) G (after_name ts) _ (name_taken ts)
    (λ x e types. ap (maybe_angled_onto types) e))
    (λ r e types. ap (maybe_angled_onto types) e)

pub referred_sound : (n : ℕ) (ts : List Spelled) → Ensures (GotReferred n ts) (referred_at n ts)
unfolding referred_at
referred_sound n ts =
    then_ensures (GotTypes n ts) (GotReferred n ts) (types_at n ts) _ (types_sound n ts)
    (λ types g. then_ensures _ (GotReferred n ts) (name_or_new_at types.1) _ (name_or_new_taken types.1)
    (λ x e. record { formed = g.formed; small = g.small; spelled = g.spelled ∙ e types.0 }))

-- types with a sign between them, at least one
pub between_types_sound : (text : List ℕ) (n : ℕ) (ts : List Spelled) → Ensures (GotOne (SomeOf FormedTy)
    (most_over ty_nesting) (between_sign text) n ts) (between_each text (ty_at n) ts)
between_types_sound text n ts =
    between_sound FormedTy n (ty_at n) (λ r. weaker (GotTy n r) (GotOne FormedTy ty_nesting ty_onto n r) (ty_at n r)
    (λ t g. record { formed = g.formed; small = g.small; spelled = g.spelled }) (ty_sound n r)) text ts
