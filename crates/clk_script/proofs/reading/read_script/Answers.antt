use Rattle.std.proofs.Common.{◌≡◌, ◌++◌, ◌∙◌, take, drop, sym, ap, subst, arith, rules}
use Rattle.std.proofs.lemmas.Bool.Decides.{nat_tests}
use Rattle.std.proofs.lemmas.List.{take-append-le}
use Rattle.clk_script.specs.inside.ScriptRouter.{named_by}
use Rattle.clk_script.specs.inside.Reading.{HasCome}
use Rattle.clk_script.proofs.Texts.SourceLemmas.{front-is, front-put, piece-fits, consumed-piece, consumed-takes, consumed-ended, not-read-long, ended, ended-failures}
use Rattle.clk_script.proofs.reading.read_script.Goals as goal

pub returns-then-count-eq0-clause-read : goal.returns-then-count-eq0-clause-read
returns-then-count-eq0-clause-read g c =
    let names = named_by c.args.numbers.now c.args.devices in
    let so_far = c.loop-size.invariant.text in
    let most = c.loop-size-test.true in
    let size = so_far.2 in
    let ends = c.end.ensures so_far.0 (subst (HasCome names so_far.0 c.loop-size.reading) (sym c.deref.ensures.value) so_far.3) in
    let test = c.if-count-eq0.true in
    let none : c.in-Ok.count ≡ 0 = grind (arith, nat_tests, test) in
    let room = c.min-room.ensures in
    let front = front-is _ _ c.loop-size.chunk c.read.new.buf room c.loop-size.invariant.chunk c.read.auto.buf in
    let text = consumed-ended _ _ _ so_far.0 (take c.in-Ok.count c.read.new.buf) so_far.1 c.in-Ok.ensures.bytes.0 (ap (λ n. take n c.read.new.buf) none) (c.in-Ok.ensures.bytes.1 none (omega (arith, front, room, most))) (omega (arith, most, size)) in
    ended names _ so_far.0 c.end.result text (omega (arith, most, size)) ends

pub returns-then-count-eq0-clause-failures : goal.returns-then-count-eq0-clause-failures
returns-then-count-eq0-clause-failures g c = search (rules, ended-failures)

pub loop-size-preserved : goal.loop-size-preserved
loop-size-preserved g c =
    let names = named_by c.args.numbers.now c.args.devices in
    let so_far = c.loop-size.invariant.text in
    let count = c.in-Ok.count in
    let buf = c.read.new.buf in
    let bound = c.in-Ok.ensures.bound in
    let chunk = c.loop-size.invariant.chunk in
    let same = c.read.auto.buf in
    let more = consumed-piece _ _ _ so_far.0 buf count _ so_far.1 so_far.2 c.in-Ok.ensures.bytes.0 bound in
    record {
      text = (
        so_far.0 ++ take count buf,
        more.0,
        more.1,
        subst (λ l. HasCome names (so_far.0 ++ l) c.go_on.new.self c.go_on.new.held.items) (take-append-le count buf (drop c.min-room.result c.loop-size.chunk) bound) (c.in_ok-go_on.ensures.come so_far.0 so_far.3),
      );
      failures = c.in-Ok.ensures.counted ∙ c.loop-size.invariant.failures;
      most = piece-fits _ _ count c.loop-size.chunk buf c.loop-size.invariant.most c.min-room.ensures chunk same bound;
      chunk = front-put _ c.loop-size.chunk buf same ∙ chunk;
    }

pub returns-in_err-go_on-clause-limit : goal.returns-in_err-go_on-clause-limit
returns-in_err-go_on-clause-limit g c =
    let so_far = c.loop-size.invariant.text in
    let count = c.in-Ok.count in
    let buf = c.read.new.buf in
    let bound = c.in-Ok.ensures.bound in
    let more = consumed-piece _ _ _ so_far.0 buf count _ so_far.1 so_far.2 c.in-Ok.ensures.bytes.0 bound in
    let fits = piece-fits _ _ count c.loop-size.chunk buf c.loop-size.invariant.most c.min-room.ensures c.loop-size.invariant.chunk c.read.auto.buf bound in
    consumed-takes _ _ (so_far.0 ++ take count buf) 33554433 more.0 (omega (arith, more.1, fits))

pub returns-clause-read : goal.returns-clause-read
returns-clause-read g c =
    let so_far = c.loop-size.invariant.text in
    let test = c.loop-size-test.false in
    let most = c.loop-size.invariant.most in
    let size = so_far.2 in
    not-read-long (named_by c.args.numbers.now c.args.devices) _ _ so_far.0 so_far.1 (omega (arith, test, most, size))
