use Rattle.std.proofs.Common.{◌∙◌, sym, ap, arith}
use Rattle.std.specs.Prelude.{Some}
use Rattle.java_lexer.specs.JavaKinds.{java_lexis}
use Rattle.java_lexer.specs.JavaTokens.{java_tokens_of}
use Rattle.java_lexer.proofs.Reading.{one_read, one_passed, one_joined, one_undivided}
use Rattle.java_lexer.proofs.JavaReading.{refused, finished, piece_utf8, rest_more}
use Rattle.java_lexer.proofs.java.divided.Goals as goal

pub returns-in-Err-clause-err : goal.returns-in-Err-clause-err
returns-in-Err-clause-err c =
    let kept = c.loop-rest.invariant in
    rw (c.fault_answer.ensures, c.place.ensures)
    (refused c.args.file c.args.bytes.now c.loop-rest.rest.now c.loop-rest.spot c.in-Err.fault c.in-Err.ensures
    kept.undivided kept.passed)

pub put-requires-clause-utf8 : goal.put-requires-clause-utf8
put-requires-clause-utf8 c = λ kind e.
    let kept = c.loop-rest.invariant in
    let front = c.in-Ok.ensures in
    rw c.split_at.ensures.front (piece_utf8 c.args.bytes.now c.loop-rest.rest.now c.in-Ok.piece.0 kind c.requires.utf8
    kept.fits kept.rest front.fits (front.first.is ∙ ap Some e))

pub loop-rest-preserved : goal.loop-rest-preserved
loop-rest-preserved c =
    let kept = c.loop-rest.invariant in
    let front = c.in-Ok.ensures in
    let n = c.in-Ok.piece.0 in
    let kind = c.in-Ok.piece.1 in
    let rest = c.loop-rest.rest.now in
    let spot = c.loop-rest.spot in
    record {
      tokens = rw (c.in_ok-put.ensures, c.behind-spot.ensures.gives, c.split_at.ensures.front, c.split_at.ensures.back)
          (one_read java_lexis (java_tokens_of c.args.file) c.loop-rest.tokens spot rest n kind front ∙ kept.tokens);
      place = rw (c.behind-spot.ensures.gives, c.split_at.ensures.front, c.split_at.ensures.back)
          (one_passed spot rest n ∙ kept.place);
      passed = rw (c.behind-spot.ensures.gives, c.split_at.ensures.front, c.split_at.ensures.back)
          (one_joined java_lexis spot rest n kind front ∙ kept.passed);
      undivided = rw c.split_at.ensures.back (one_undivided java_lexis rest n kind front ∙ kept.undivided);
      fits = omega (arith, c.split_at.ensures.back_len, kept.fits);
      rest = rw c.split_at.ensures.back (rest_more c.args.bytes.now rest n kept.fits kept.rest front.fits);
      line = omega (
        arith,
        c.behind-spot.ensures.line,
        c.split_at.ensures.front_len,
        c.split_at.ensures.back_len,
        front.fits,
      );
      column = omega (
        arith,
        c.behind-spot.ensures.column,
        c.split_at.ensures.front_len,
        c.split_at.ensures.back_len,
        front.fits,
      );
      one = c.behind-spot.ensures.one;
    }

pub returns-clause-ok : goal.returns-clause-ok
returns-clause-ok c =
    let kept = c.loop-rest.invariant in
    rw c.place-2.ensures (finished c.args.file c.args.bytes.now c.loop-rest.rest.now c.loop-rest.spot c.loop-rest.tokens
    (sym c.loop-rest-test.ensures) kept.undivided kept.tokens kept.place)
