use Rattle.std.proofs.Common.{◌≤◌, ◌∷◌, [], List, ap, length, sym, ◌∙◌, subst, arith}
use Rattle.std.proofs.Math.ListN.{length-append}
use Rattle.rh_layout.specs.declared.laid.LaidProc.{LaidProc}
use Rattle.rh_layout.specs.Layout.{AreLaid}
use Rattle.rh_layout.proofs.LaidOut.{few_all, few_more, few_procs, laid_more, words_all, words_more}
use Rattle.rh_layout.proofs.layout.Layout.new.Goals as goal

pub lay_out-requires-clause-room : goal.lay_out-requires-clause-room
lay_out-requires-clause-room c =
    let few = few_procs c.args.program.now c.count-number-end.ensures.program in
    omega (arith, few, c.loop-number.invariant.room)

pub loop-number-preserved : goal.loop-number-preserved
loop-number-preserved c =
    let schemas = c.args.schemas.now in
    let procs = c.args.program.now in
    let known = c.loop-number.invariant in
    let laid = c.in_ok-laid.ensures.laid in
    let at = sym c.in-Some.ensures.proc in
    let size = length-append c.loop-number.procs (c.in_ok-laid.laid ∷ []) in
    let whole = ap length c.in_ok-push.ensures.ok in
    record {
      count = omega (arith, size, whole, known.count);
      words_are = words_more schemas procs c.loop-number.number c.loop-number.words c.in-Some.proc.now c.in_ok-laid.laid known.words_are at laid;
      room = (let next = c.in_ok-laid.ensures.next in omega (arith, next, known.room));
      few = few_more schemas procs c.loop-number.number c.in-Some.proc.now at laid.few_facts known.few;
      laid = subst (λ (parts : List LaidProc). AreLaid schemas procs parts) (sym c.in_ok-push.ensures.ok)
          (laid_more schemas procs c.loop-number.procs c.loop-number.number c.loop-number.words c.in-Some.proc.now c.in_ok-laid.laid known.count known.words_are at laid known.laid);
    }

pub returns-then-words-gt-MOST_WORDS-clause-fault : goal.returns-then-words-gt-MOST_WORDS-clause-fault
returns-then-words-gt-MOST_WORDS-clause-fault c =
    let known = c.loop-number.invariant in
    let whole : length c.args.program.now ≤ c.loop-number.number = omega arith in
    let words = words_all c.args.schemas.now c.args.program.now c.loop-number.number c.loop-number.words whole known.words_are in
    record {
      few_facts = few_all c.args.schemas.now c.args.program.now c.loop-number.number whole known.few;
      count_is = c.from.ensures ∙ words;
      many = omega (arith, c.from.ensures, c.if-words-gt-MOST_WORDS.true);
    }

pub returns-clause-layout : goal.returns-clause-layout
returns-clause-layout c =
    let known = c.loop-number.invariant in
    let whole : length c.args.program.now ≤ c.loop-number.number = omega arith in
    let words = words_all c.args.schemas.now c.args.program.now c.loop-number.number c.loop-number.words whole known.words_are in
    record {
      few_schemas = c.requires;
      few_procs = few_procs c.args.program.now c.count-number-end.ensures.program;
      few_facts = few_all c.args.schemas.now c.args.program.now c.loop-number.number whole known.few;
      few_words = omega (arith, words, c.if-words-gt-MOST_WORDS.false);
      length_is = omega (arith, known.count);
      laid = known.laid;
      words_are = words;
    }
