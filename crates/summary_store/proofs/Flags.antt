-- A flag of a program, read from its methods.
use Rattle.std.proofs.Common.{◌≡◌, ℕ, zero, suc, ◌<◌, List, [], ◌∷◌, length, Bool, map, refl, sym, ap, ◌∙◌, arith}
use Rattle.std.proofs.Common.{get_or, is_none, is_some, not, Option, Some, None, true, false}
use Rattle.std.proofs.lemmas.List.{length-map}
use Rattle.core_code.specs.Core.{Core, Method, method_of}
use Rattle.core_code.specs.declared.parts.MethodCore.{MethodCore}
use Rattle.core_code.specs.Counting.{flags_of}

flag_here : (ms : List MethodCore) (i : ℕ) (x : MethodCore) (d : Bool) → i < length ms → x ≡ get_or ms i x →
    get_or (map (λ (m : Method). is_none m.status) (map method_of ms)) i d ≡ is_none x.status
flag_here [] i x d low is = absurd (omega arith)
flag_here (m ∷ ms) zero x d low is = ap (λ (y : MethodCore). is_none y.status) (sym is)
flag_here (m ∷ ms) (suc i) x d low is = flag_here ms i x d (omega arith) is

pub flag_at : (core : Core) (ms : List MethodCore) (i : ℕ) (x : MethodCore) (b d : Bool) →
    map method_of ms ≡ core.methods →
    i < length ms → x ≡ get_or ms i x → b ≡ is_none x.status → b ≡ get_or (flags_of core) i d
flag_at core ms i x b d all low is flag =
    flag
    ∙ sym (flag_here ms i x d low is)
    ∙ ap (λ (l : List Method). get_or (map (λ (m : Method). is_none m.status) l) i d) all

pub none_by : {X : Type 0} (o : Option X) (b : Bool) → is_some o ≡ not b → b ≡ is_none o
none_by None true e = refl
none_by None false e = cc
none_by (Some x) true e = cc
none_by (Some x) false e = refl

pub flags_count : (core : Core) (ms : List MethodCore) → map method_of ms ≡ core.methods →
    length (flags_of core) ≡ length ms
flags_count core ms all =
    length-map core.methods (λ (m : Method). is_none m.status) ∙ ap length (sym all) ∙ length-map ms method_of
