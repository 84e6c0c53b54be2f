use Rattle.std.proofs.Common.{map, [], refl}
use Rattle.java_tree.specs.Spelling.{ty_onto}
use Rattle.java_tree.specs.Formed.{FormedTy}
use Rattle.java_tree.specs.Nesting.{ty_nesting}
use Rattle.java_tree.specs.View.{ty_of}
use Rattle.java_parser_grammar.specs.TypeReading.{ty_at}
use Rattle.java_parser_types.specs.Tokens.{spelled}
use Rattle.java_parser_grammar.proofs.FoundTypes.{ty_found, one_type}
use Rattle.java_parser_grammar.proofs.SoundJava.{java_sound}
use Rattle.java_parser_types.proofs.WholeTrees.{whole_formed, whole_spelled, whole_small, whole_only, whole_none}
use Rattle.java_parser_types.proofs.whole.read_type.Goals as goal

pub returns-clause-formed : goal.returns-clause-formed
returns-clause-formed c = let ts = map spelled c.args.tokens.now in whole_formed ty_of FormedTy ty_nesting ty_onto
    c.args.limit ts (ty_at c.args.limit ts) (java_sound.ty c.args.limit ts) c.whole_type.result
    c.whole_type.ensures.gives

pub returns-clause-spelled : goal.returns-clause-spelled
returns-clause-spelled c = let ts = map spelled c.args.tokens.now in whole_spelled ty_of FormedTy ty_nesting ty_onto
    c.args.limit ts (ty_at c.args.limit ts) (java_sound.ty c.args.limit ts) c.whole_type.result
    c.whole_type.ensures.gives

pub returns-clause-small : goal.returns-clause-small
returns-clause-small c = let ts = map spelled c.args.tokens.now in whole_small ty_of FormedTy ty_nesting ty_onto
    c.args.limit ts (ty_at c.args.limit ts) (java_sound.ty c.args.limit ts) c.whole_type.result
    c.whole_type.ensures.gives

pub returns-clause-only : goal.returns-clause-only
returns-clause-only c = let ts = map spelled c.args.tokens.now in whole_only ty_of FormedTy ty_nesting ty_onto
    c.args.limit ts (ty_at c.args.limit ts) (java_sound.ty c.args.limit ts) one_type c.whole_type.result
    c.whole_type.ensures.gives

pub returns-clause-none : goal.returns-clause-none
returns-clause-none c = whole_none ty_of FormedTy ty_nesting ty_onto c.args.limit (map spelled c.args.tokens.now)
    (ty_at c.args.limit) (λ a f fits. ty_found a f c.args.limit [] fits (record {
      less = refl;
      point = refl;
      brackets = refl;
    })) c.whole_type.result c.whole_type.ensures.gives
