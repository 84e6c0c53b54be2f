-- A contract of a public call rests on this: two drafts, and their code.
use Rattle.std.specs.Prelude.{ℕ, List, [], ◌∷◌, ◌++◌, map}
use Rattle.std.specs.List.{flat_map}
use Rattle.racer_base.specs.declared.ids.Place.{Place}
use Rattle.racer_base.specs.declared.ids.VarId.{VarId}
use Rattle.racer_base.specs.declared.ids.FieldId.{FieldId}
use Rattle.core_code.specs.declared.code.Op.{Op as CoreOp}
use Rattle.core_code.specs.declared.code.Op.TheVariants.{Push, PushPrim, PushNull, Dup, Drop, Get, Put, Set, Prim, Ret}
use Rattle.core_code.specs.Tree.{LockAt, in_sequence}
use Rattle.core_code.specs.Tree as tree
use Rattle.core_lowering_drafts.specs.Drafts.{Part, Draft, Op, Choice, Loop, Sync, Leave, Within, Never, Ending, Behind}
use Rattle.core_lowering_drafts.specs.Drafts.{no_part, in_order}
use Rattle.core_lowering_drafts.specs.Only.{Code, one, fork, loop_of}

abbrev pub variable : ℕ → VarId
variable n = record { 0 = n }

abbrev pub field : ℕ → FieldId
field n = record { 0 = n }

-- operations, in a draft and in code
abbrev pub ops : Place → List CoreOp → List Part
ops place all = map (Op place) all

abbrev pub codes : Place → List CoreOp → Code
codes place all = flat_map (one place) all

-- ---- try { synchronized (this) { if (on == 0) return 0; } } finally { runs++; } return 1;

-- on == 0
abbrev pub field_is_zero : List CoreOp
field_is_zero = Push (variable 0) ∷ Get (field 0) ∷ PushPrim ∷ Prim 2 ∷ Drop ∷ []

-- runs++
abbrev pub counts : List CoreOp
counts = Push (variable 0) ∷ Dup ∷ Get (field 1) ∷ Prim 1 ∷ Put (field 1) ∷ Drop ∷ []

abbrev pub finally_body : Place → LockAt → Draft
finally_body place lock =
    in_order (ops place (Push (variable 0) ∷ []) ++ Sync lock (in_order (ops place field_is_zero
    ++ Choice (in_order (ops place (PushPrim ∷ Set (variable 1) ∷ Drop ∷ []) ++ Leave 0 ∷ [])) no_part ∷ [])) ∷ [])

abbrev pub finally_draft : Place → LockAt → Draft
finally_draft place lock =
    in_order (Ending (in_order (Behind (finally_body place lock) (in_order (ops place counts)) 0
    (in_order (ops place (Push (variable 1) ∷ Ret ∷ []))) ∷ [])) place (variable 1 ∷ [])
    ∷ ops place (PushPrim ∷ Ret ∷ []))

abbrev pub finally_code : Place → LockAt → Code
finally_code place lock =
    fork (codes place (Push (variable 0) ∷ [])
    ++ tree.Sync lock (in_sequence (codes place (field_is_zero ++ PushPrim ∷ Set (variable 1) ∷ Drop ∷ [])))
    ∷ codes place (counts ++ Push (variable 1) ∷ Ret ∷ []))
    (codes place (Push (variable 0) ∷ []) ++ tree.Sync lock (in_sequence (codes place field_is_zero))
    ∷ codes place counts)
    ++ codes place (PushNull ∷ Set (variable 1) ∷ Drop ∷ PushPrim ∷ Ret ∷ [])

-- ---- while (true) { switch (k) { case 1: a = 1; break; case 2: continue; default: a = 2; } if (k == 0) break; }
-- b = 1;

-- a field is set; k; k == 0; true
abbrev pub sets : ℕ → List CoreOp
sets n = Push (variable 0) ∷ PushPrim ∷ Put (field n) ∷ Drop ∷ []

abbrev pub value : List CoreOp
value = Push (variable 1) ∷ Drop ∷ []

abbrev pub variable_is_zero : List CoreOp
variable_is_zero = Push (variable 1) ∷ PushPrim ∷ Prim 2 ∷ Drop ∷ []

abbrev pub is_true : List CoreOp
is_true = PushPrim ∷ Drop ∷ []

-- exits: 0 of the loop, 1 of a round, 2 of the switch
abbrev pub groups : Place → Draft
groups place = in_order (Choice (in_order (ops place (sets 0) ++ Leave 2 ∷ []))
    (in_order (Choice (in_order (Leave 1 ∷ [])) (in_order (ops place (sets 0))) ∷ [])) ∷ [])

abbrev pub round : Place → Draft
round place = in_order (ops place value ++ Within 2 (groups place) ∷ ops place variable_is_zero
    ++ Choice (in_order (Leave 0 ∷ [])) no_part ∷ [])

abbrev pub loop_draft : Place → Draft
loop_draft place = in_order (ops place is_true
    ++ Within 0 (in_order (Loop (in_order (Within 1 (round place) ∷ ops place is_true)) ∷ Never ∷ []))
    ∷ ops place (sets 1 ++ PushPrim ∷ Ret ∷ []))

abbrev pub either_set : Place → Code
either_set place = fork (codes place (sets 0)) (codes place (sets 0))

abbrev pub loop_code : Place → Code
loop_code place =
    codes place is_true
    ++ loop_of (codes place value ++ fork [] (either_set place ++ codes place variable_is_zero) ++ codes place is_true)
    ++ codes place value ++ either_set place ++ codes place (variable_is_zero ++ sets 1 ++ PushPrim ∷ Ret ∷ [])
