-- The keys of records whose paths are numbers: a record's key is among them exactly where one of them has it.
use Rattle.std.proofs.Common.{◌≡◌, cond, ◌&&◌, ◌||◌, ℕ, Bool, true, false, List, [], ◌∷◌, ◌++◌, map, nat_eq, refl}
use Rattle.std.proofs.Common.{sym, ap, ◌∙◌}
use Rattle.std.specs.Bool.{beq}
use Rattle.std.specs.List.{list_any}
use Rattle.std.proofs.lemmas.Bool.{eqb-true, eq-eqb}
use Rattle.indexmap.specs.IndexSet.{insert_key}
use Rattle.access_domain.specs.declared.numbered.NumberedAccess.{NumberedAccess}
use Rattle.access_domain.specs.declared.numbered.NumberedKey.{NumberedKey}
use Rattle.access_domain.specs.Numbered.{numbered_key_eq, numbered_key_of, same_numbered_key, HasNumberedKeysOf}
use Rattle.core_code.specs.Touches.{is_write}
use Rattle.access_domain.specs.Records.{same_flag}
use Rattle.racer_base.proofs.Tests.{same_truth}

flags_back : (a b : Bool) → beq a b ≡ same_flag b a
flags_back true true = refl
flags_back true false = refl
flags_back false true = refl
flags_back false false = refl

grouped : (p q r s : Bool) → (p && (q && (r && s))) ≡ (p && q && r && s)
grouped true true r s = refl
grouped true false r s = refl
grouped false q r s = refl

pub numbers_back : (m n : ℕ) → nat_eq m n ≡ nat_eq n m
numbers_back m n = same_truth (nat_eq m n) (nat_eq n m) (λ e. eq-eqb n m (sym (eqb-true m n e))) (λ e.
    eq-eqb m n (sym (eqb-true n m e)))

key_back : (a b : NumberedAccess) → numbered_key_eq (numbered_key_of a) (numbered_key_of b) ≡ same_numbered_key b a
key_back a b =
    let path = nat_eq b.path a.path in
    let touch = same_flag (is_write b.kind) (is_write a.kind) in
    let lock = same_flag b.locked a.locked in
    let main = same_flag b.main a.main in
    (λ i.
    numbers_back a.path b.path i
    && (flags_back (is_write a.kind) (is_write b.kind) i
    && (flags_back a.locked b.locked i && flags_back a.main b.main i)))
    ∙ grouped path touch lock main

-- the key of a record is among those of these exactly where one of them has it
pub among_numbered : (a : NumberedAccess) (records : List NumberedAccess) →
    list_any (numbered_key_eq (numbered_key_of a)) (map numbered_key_of records) ≡
    list_any (λ r. same_numbered_key r a) records
among_numbered a [] = refl
among_numbered a (r ∷ records) = (λ i. key_back a r i || among_numbered a records i)

keys-append : (records : List NumberedAccess) (x : NumberedAccess) →
    (map numbered_key_of records ++ numbered_key_of x ∷ []) ≡ map numbered_key_of (records ++ x ∷ [])
keys-append [] x = refl
keys-append (r ∷ records) x = ap (λ keys. numbered_key_of r ∷ keys) (keys-append records x)

-- one more record, whose key is new
pub HasNumberedKeysOf-added : (old new : List NumberedKey) (records : List NumberedAccess) (x : NumberedAccess) →
    HasNumberedKeysOf old records → list_any (λ r. same_numbered_key r x) records ≡ false →
    new ≡ insert_key numbered_key_eq old (numbered_key_of x) → HasNumberedKeysOf new (records ++ x ∷ [])
HasNumberedKeysOf-added old new records x has fresh put =
    let keys = map numbered_key_of records in
    put ∙ ap (λ ks. insert_key numbered_key_eq ks (numbered_key_of x)) has
    ∙ ap (λ b. cond b keys (keys ++ numbered_key_of x ∷ [])) (among_numbered x records ∙ fresh)
    ∙ keys-append records x
