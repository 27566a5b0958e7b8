-- `hold` meets its contract: each field is a theorem of the crate that states the claim. Assumes nothing.
use Rattle.codes_theory.proofs.EntryCodes as codes-theory-entry-codes-proofs
use Rattle.codes_theory.proofs.Named as codes-theory-named-proofs
use Rattle.codes_theory.proofs.Space as codes-theory-space-proofs
use Rattle.codes_theory.proofs.TableCodes as codes-theory-table-codes-proofs
use Rattle.holders_theory.proofs.AskCode as holders-theory-ask-code-proofs
use Rattle.holders_theory.proofs.EveryCall as holders-theory-every-call-proofs
use Rattle.holders_theory.proofs.Examples as holders-theory-examples-proofs
use Rattle.holders_theory.proofs.Kept as holders-theory-kept-proofs
use Rattle.holders_theory.proofs.Reported as holders-theory-reported-proofs
use Rattle.influence_theory.proofs.Exact as influence-theory-exact-proofs
use Rattle.influence_theory.proofs.Examples as influence-theory-examples-proofs
use Rattle.influence_theory.proofs.Lists as influence-theory-lists-proofs
use Rattle.influence_theory.proofs.Purged as influence-theory-purged-proofs
use Rattle.influence_theory.proofs.Sound as influence-theory-sound-proofs
use Rattle.influence_theory.proofs.TwoLines as influence-theory-two-lines-proofs
use Rattle.input_words.proofs.WordLaws as input-words-word-laws-proofs
use Rattle.isolation_theory.proofs.Component as isolation-theory-component-proofs
use Rattle.isolation_theory.proofs.ComponentExamples as isolation-theory-component-examples-proofs
use Rattle.isolation_theory.proofs.LineExamples as isolation-theory-line-examples-proofs
use Rattle.isolation_theory.proofs.TwoLines as isolation-theory-two-lines-proofs
use Rattle.linerun_input.proofs.StageLaws as linerun-input-stage-laws-proofs
use Rattle.linerun_report.proofs.CursorLaws as linerun-report-cursor-laws-proofs
use Rattle.linerun_report.proofs.Examples as linerun-report-examples-proofs
use Rattle.linerun_report.proofs.Refusals as linerun-report-refusals-proofs
use Rattle.linerun_report.proofs.ReportLaws as linerun-report-report-laws-proofs
use Rattle.linerun_report.proofs.SpaceLaws as linerun-report-space-laws-proofs
use Rattle.linetotals_input.proofs.Examples as linetotals-input-examples-proofs
use Rattle.linetotals_report.proofs.Reading as linetotals-report-reading-proofs
use Rattle.linetotals_theory.proofs.Examples as linetotals-theory-examples-proofs
use Rattle.linetotals_theory.proofs.InputLaws as linetotals-theory-input-laws-proofs
use Rattle.linetotals_theory.proofs.InputRead as linetotals-theory-input-read-proofs
use Rattle.linetotals_theory.proofs.MostLists as linetotals-theory-most-lists-proofs
use Rattle.linetotals_theory.proofs.RunLaws as linetotals-theory-run-laws-proofs
use Rattle.linetotals_theory.proofs.SheetLaws as linetotals-theory-sheet-laws-proofs
use Rattle.kernel.proofs.AskedAfterStep as kernel-asked-after-step-proofs
use Rattle.kernel.proofs.StepIsRun as kernel-step-is-run-proofs
use Rattle.machine.proofs.AnswerClaims as machine-answer-claims-proofs
use Rattle.machine.proofs.AsBefore as machine-as-before-proofs
use Rattle.machine.proofs.CallClaims as machine-call-claims-proofs
use Rattle.machine.proofs.Consistency as machine-consistency-proofs
use Rattle.machine.proofs.Counts as machine-counts-proofs
use Rattle.machine.proofs.Exactly as machine-exactly-proofs
use Rattle.machine.proofs.Examples as machine-examples-proofs
use Rattle.machine.proofs.Noninterference as machine-noninterference-proofs
use Rattle.machine.proofs.Promise as machine-promise-proofs
use Rattle.machine.proofs.PromiseClaims as machine-promise-claims-proofs
use Rattle.machine.proofs.QueueClaims as machine-queue-claims-proofs
use Rattle.machine.proofs.Refused as machine-refused-proofs
use Rattle.machine.proofs.Shortcuts as machine-shortcuts-proofs
use Rattle.machine.proofs.Step as machine-step-proofs
use Rattle.machine.proofs.Trail as machine-trail-proofs
use Rattle.machine.proofs.WordClaims as machine-word-claims-proofs
use Rattle.potential_theory.proofs.Exact as potential-theory-exact-proofs
use Rattle.potential_theory.proofs.Examples as potential-theory-examples-proofs
use Rattle.potential_theory.proofs.Lists as potential-theory-lists-proofs
use Rattle.potential_theory.proofs.Sound as potential-theory-sound-proofs
use Rattle.queue.proofs.LaterSlots as queue-later-slots-proofs
use Rattle.reachability.proofs.Chain as reachability-chain-proofs
use Rattle.reachability.proofs.Examples as reachability-examples-proofs
use Rattle.repair_theory.proofs.Claims as repair-theory-claims-proofs
use Rattle.repair_theory.proofs.Examples as repair-theory-examples-proofs
use Rattle.repair_theory.proofs.RepairClaims as repair-theory-repair-claims-proofs
use Rattle.rights_matrix_theory.proofs.Examples as rights-matrix-theory-examples-proofs
use Rattle.rights_matrix_theory.proofs.Rights as rights-matrix-theory-rights-proofs
use Rattle.ring_theory.proofs.Examples as ring-theory-examples-proofs
use Rattle.ring_theory.proofs.Simulation as ring-theory-simulation-proofs
use Rattle.rules.proofs.Readings as rules-readings-proofs
use Rattle.table_check_bytes.proofs.Laws as table-check-bytes-laws-proofs
use Rattle.text.proofs.DecimalClaim as text-decimal-claim-proofs
use Rattle.totals_add.proofs.TallyLaws as totals-add-tally-laws-proofs
use Rattle.totals_theory.proofs.Examples as totals-theory-examples-proofs
use Rattle.totals_theory.proofs.TotalsLaws as totals-theory-totals-laws-proofs
use Rattle.turns.proofs.Claims as turns-claims-proofs
use Rattle.turns.proofs.Examples as turns-examples-proofs
use Rattle.turns.proofs.OneEvent as turns-one-event-proofs
use Rattle.turns.proofs.Service as turns-service-proofs
use Rattle.turns.proofs.WordHistory as turns-word-history-proofs
use Rattle.turns_state.proofs.Examples as turns-state-examples-proofs
use Rattle.turns_theory.proofs.Codes as turns-theory-codes-proofs
use Rattle.turns_theory.proofs.Examples as turns-theory-examples-proofs
use Rattle.turns_theory.proofs.Histories as turns-theory-histories-proofs
use Rattle.turns_theory.proofs.InTime as turns-theory-in-time-proofs
use Rattle.turns_theory.proofs.Order as turns-theory-order-proofs
use Rattle.working_load.proofs.Loaded as working-load-loaded-proofs
use Rattle.working_load.proofs.Run as working-load-run-proofs
use Rattle.working_load.proofs.Stored as working-load-stored-proofs
use Rattle.working_theory.proofs.Simulation as working-theory-simulation-proofs
use Rattle.working_theory.proofs.TwoRuns as working-theory-two-runs-proofs
use Rattle.writer_theory.proofs.Examples as writer-theory-examples-proofs
use Rattle.writer_theory.proofs.ListClaims as writer-theory-list-claims-proofs
use Rattle.writer_theory.proofs.NoneRefused as writer-theory-none-refused-proofs
use Rattle.writer_theory.proofs.Reading as writer-theory-reading-proofs
use Rattle.writer_theory.proofs.Result as writer-theory-result-proofs
use Rattle.writer_theory.proofs.RowExamples as writer-theory-row-examples-proofs
use Rattle.writer_theory.proofs.Rows as writer-theory-rows-proofs
use Rattle.writer_theory.proofs.Writing as writer-theory-writing-proofs
use Rattle.promises.proofs.hold.Goals as goal

pub returns : goal.returns
returns c =
    record {
      D-rows = machine-examples-proofs.every-row;
      D-codes = machine-examples-proofs.every-code-row;
      D-tables = machine-examples-proofs.every-table;
      D-fields = machine-examples-proofs.every-field-row;
      D-any-words = machine-examples-proofs.any-words-row;
      D-counts-row = machine-examples-proofs.count-row;
      D-bytes-same-code = table-check-bytes-laws-proofs.same_code;
      D-bytes-left-over = table-check-bytes-laws-proofs.left_over;
      D-bytes-exactly = table-check-bytes-laws-proofs.every-bytes-code;
      D-bytes-codes = table-check-bytes-laws-proofs.codes-of-bytes;
      D-table-short = machine-word-claims-proofs.accepted-short;
      D-split-by-kinds = machine-word-claims-proofs.split-by-kinds;
      D-split-keeps-words = machine-word-claims-proofs.split-keeps-words;
      D-answer-word = machine-word-claims-proofs.answer_word_lem;
      D-owned-bits = machine-word-claims-proofs.owned-bits;
      D-rights-digits = machine-word-claims-proofs.rights-digits;
      D-answers-by-kind = machine-answer-claims-proofs.unrefused-answer;
      D-look-up = machine-answer-claims-proofs.look_up_lem;
      D-space-beyond = codes-theory-space-proofs.space-beyond;
      D-entry-keeps = machine-promise-proofs.promise-kept;
      D-step-is-run = kernel-step-is-run-proofs.step-is-run;
      D-refused-exactly = machine-exactly-proofs.refused-exactly;
      D-refusals = machine-refused-proofs.refusal-changes-nothing;
      D-entry-refusal = machine-promise-claims-proofs.refused-run;
      D-unrefused-zero = machine-word-claims-proofs.unrefused-zero;
      D-requires = machine-call-claims-proofs.requires;
      D-names-known = codes-theory-named-proofs.names-known;
      D-refusal-codes = machine-call-claims-proofs.refusal-code;
      D-table-codes = machine-call-claims-proofs.table-code;
      D-table-exactly = codes-theory-table-codes-proofs.table-code-exactly;
      D-entry-codes = machine-call-claims-proofs.entry-code-most;
      D-entry-exactly = codes-theory-entry-codes-proofs.entry-code-exactly;
      I-stays-accepted = machine-step-proofs.stays-accepted;
      I-run-stays-accepted = machine-step-proofs.run-accepted;
      I-promised-accepted = machine-promise-claims-proofs.promised-accepted;
      I-alters-named = machine-word-claims-proofs.alters-named;
      I-send-with-space = machine-queue-claims-proofs.send-with-space;
      I-send-to-full = machine-queue-claims-proofs.send-to-full;
      I-receive-takes-out = machine-queue-claims-proofs.receive-takes-out;
      I-other-leaves-queue = machine-queue-claims-proofs.other-leaves-queue;
      I-alters-only = machine-step-proofs.alters-only;
      I-answer-depends = machine-consistency-proofs.answer-depends;
      I-each-right = machine-trail-proofs.each_right;
      I-rights-provenance = machine-trail-proofs.rights-provenance;
      N-noninterference = machine-noninterference-proofs.noninterference;
      N-purge-rows = machine-examples-proofs.every-purge-row;
      N-last-table-fails = machine-examples-proofs.last-table-rule-fails;
      N-showing-full-fails = machine-shortcuts-proofs.showing-full-fails;
      N-giving-up-fails = machine-shortcuts-proofs.giving-up-fails;
      N-refusing-held-fails = machine-shortcuts-proofs.refusing-held-fails;
      N-refusing-all-passes = machine-shortcuts-proofs.refusing-all-passes;
      N-refusing-all-differs = machine-shortcuts-proofs.refusing-all-differs;
      C-answers = machine-counts-proofs.answers-length;
      C-counts-conserved = machine-counts-proofs.counts-conserved;
      C-fifo-order = machine-counts-proofs.fifo-order;
      R-same-decision = rules-readings-proofs.same-decision;
      P-linerun-rows = linerun-report-examples-proofs.every-row;
      P-little-endian = input-words-word-laws-proofs.little_endian;
      P-decimal = text-decimal-claim-proofs.every-decimal;
      P-linerun-words = linerun-report-report-laws-proofs.words-reported;
      P-linerun-long-list = linerun-report-refusals-proofs.long-list-stops;
      P-linerun-seven = linerun-report-refusals-proofs.every-seven;
      P-linerun-refused-alone = linerun-report-refusals-proofs.refused-alone;
      P-linerun-start = linerun-input-stage-laws-proofs.starts;
      P-linerun-step = linerun-input-stage-laws-proofs.steps;
      P-linerun-parts = linerun-report-cursor-laws-proofs.parts-are-report;
      P-linerun-every-space = linerun-report-space-laws-proofs.every-space;
      P-linerun-nothing-follows = linerun-report-report-laws-proofs.nothing-follows;
      P-linerun-never-six = linerun-report-refusals-proofs.never-six;
      B-all-or-nothing = machine-trail-proofs.all-or-nothing;
      B-remove-of-one = machine-trail-proofs.remove-of-one;
      W-reads-back = writer-theory-reading-proofs.reads-back;
      W-different-words = writer-theory-reading-proofs.different-words;
      W-writes-back = writer-theory-writing-proofs.writes-back;
      W-taken-by-reader = writer-theory-reading-proofs.taken-by-reader;
      W-four = writer-theory-none-refused-proofs.four-of-the-machine;
      W-written-reads-back = writer-theory-list-claims-proofs.written-reads-back;
      W-written-as-it-came = writer-theory-list-claims-proofs.written-as-it-came;
      W-each-wants-a-word = writer-theory-list-claims-proofs.each-wants-a-word;
      W-codes = writer-theory-list-claims-proofs.every-writing-code;
      W-others-left = writer-theory-list-claims-proofs.others-left;
      W-no-table-refuses = writer-theory-none-refused-proofs.no-table-refuses;
      W-no-run-refuses = writer-theory-none-refused-proofs.no-run-refuses;
      W-rows-read-back = writer-theory-rows-proofs.rows-read-back;
      W-rows-different-words = writer-theory-rows-proofs.rows-different-words;
      W-rows-written-as-it-came = writer-theory-rows-proofs.rows-written-as-it-came;
      W-results = writer-theory-result-proofs.every-result;
      W-rows = writer-theory-examples-proofs.every-row;
      W-bad-calls = writer-theory-examples-proofs.every-bad-call;
      W-five-words = writer-theory-row-examples-proofs.every-row;
      W-each-kind = writer-theory-row-examples-proofs.each-kind;
      W-no-calls = writer-theory-row-examples-proofs.no-calls;
      Q-later-slots = queue-later-slots-proofs.later-slots-stay;
      Q-move-up = queue-later-slots-proofs.waiting-move-up;
      Q-as-before = machine-word-claims-proofs.receive-as-before;
      Q-run-as-before = machine-as-before-proofs.run-as-before;
      Q-receive-rows = queue-later-slots-proofs.every-receive;
      E-sheet = totals-theory-totals-laws-proofs.sheet-holds;
      E-one-run = totals-theory-totals-laws-proofs.one-run;
      E-list-by-list = totals-theory-totals-laws-proofs.list-by-list;
      E-tally = totals-add-tally-laws-proofs.every-tally-list-by-list;
      E-totals-rows = totals-theory-examples-proofs.every-row;
      E-input-rows = linetotals-input-examples-proofs.every-row;
      E-sheet-rows = linetotals-theory-examples-proofs.every-row;
      E-most-lists = linetotals-theory-most-lists-proofs.most-lists-row;
      E-input-read = linetotals-theory-input-read-proofs.input-read;
      E-list-refused = linetotals-theory-input-read-proofs.list-refused;
      E-input-few = linetotals-theory-input-laws-proofs.input-few;
      E-codes = linetotals-theory-input-laws-proofs.every-code;
      E-refusal-final = linetotals-theory-input-laws-proofs.refusal-final;
      E-nothing-follows = linetotals-theory-sheet-laws-proofs.nothing-follows;
      E-printed = linetotals-theory-sheet-laws-proofs.printed-conserved;
      E-lists-run = linetotals-theory-run-laws-proofs.every-list-runs;
      E-reading = linetotals-report-reading-proofs.every-reading;
      G-lines = isolation-theory-two-lines-proofs.between-lines;
      G-runs = isolation-theory-two-lines-proofs.between-runs;
      G-rows = isolation-theory-line-examples-proofs.every-line-row;
      G-condition-met = isolation-theory-line-examples-proofs.condition-met;
      G-parts-not-enough = isolation-theory-line-examples-proofs.parts-are-not-enough;
      G-own-part-not-enough = isolation-theory-line-examples-proofs.own-part-is-not-enough;
      G-last-table-not-enough = isolation-theory-line-examples-proofs.last-table-is-not-enough;
      H-say = holders-theory-reported-proofs.holders-say;
      H-one-word = holders-theory-reported-proofs.holders-one-word;
      H-no-other = holders-theory-reported-proofs.holders-no-other;
      H-kept = holders-theory-kept-proofs.holders-kept;
      H-kept-along = holders-theory-kept-proofs.holders-kept-along;
      H-after-every-call = holders-theory-every-call-proofs.holders-after-every-call;
      H-codes = holders-theory-ask-code-proofs.ask-code;
      H-asked-exactly = holders-theory-reported-proofs.asked-exactly;
      H-asked-now = holders-theory-reported-proofs.asked-now;
      H-asked-after-run = holders-theory-reported-proofs.asked-after-run;
      H-asked-after-step = kernel-asked-after-step-proofs.asked-after-step;
      H-closed-exactly = reachability-chain-proofs.closed-exactly;
      H-relation-closed-exactly = reachability-chain-proofs.relation-closed-exactly;
      H-closure-rows = reachability-examples-proofs.every-closure-row;
      H-table-rows = holders-theory-examples-proofs.every-table-row;
      H-change-rows = holders-theory-examples-proofs.every-change-row;
      H-asking-rows = holders-theory-examples-proofs.every-asking-row;
      J-component = isolation-theory-component-proofs.every-component;
      J-shared = isolation-theory-component-proofs.component-shared;
      J-of-domains = isolation-theory-component-proofs.component-of-domains;
      J-stay = isolation-theory-component-proofs.components-stay;
      J-within = isolation-theory-component-proofs.components-within;
      J-noninterference = isolation-theory-component-proofs.component-noninterference;
      J-run-stay = isolation-theory-component-proofs.promised-components-stay;
      J-run-within = isolation-theory-component-proofs.promised-components-within;
      J-run-noninterference = isolation-theory-component-proofs.promised-component-noninterference;
      J-rows = isolation-theory-component-examples-proofs.every-component-row;
      V-exact = potential-theory-exact-proofs.every-potential-right;
      V-run-within = potential-theory-sound-proofs.run-within;
      V-promised-run-within = potential-theory-sound-proofs.promised-run-within;
      V-run-within-everyone = potential-theory-sound-proofs.run-within-everyone;
      V-promised-run-within-everyone = potential-theory-sound-proofs.promised-run-within-everyone;
      V-nothing-new = potential-theory-sound-proofs.nothing-new;
      V-list-gives-all = potential-theory-lists-proofs.gives_all;
      V-run-gives-all = potential-theory-lists-proofs.promised-run-gives-all;
      V-in-component = potential-theory-lists-proofs.potential-in-component;
      V-rows = potential-theory-examples-proofs.every-potential-row;
      U-computed = influence-theory-exact-proofs.every-could-influence;
      U-of-domains = influence-theory-exact-proofs.influence-of-domains;
      U-sources-within = influence-theory-sound-proofs.source-could-influence;
      U-list-makes-all = influence-theory-lists-proofs.makes-all;
      U-sources-exactly = influence-theory-lists-proofs.source-exactly;
      U-nobody-new = influence-theory-sound-proofs.nobody-new;
      U-noninterference = influence-theory-purged-proofs.influence-noninterference;
      U-run-noninterference = influence-theory-purged-proofs.promised-influence-noninterference;
      U-everyone-noninterference = influence-theory-purged-proofs.everyone-noninterference;
      U-run-everyone-noninterference = influence-theory-purged-proofs.promised-everyone-noninterference;
      U-every-caller = influence-theory-purged-proofs.caller-is-known;
      U-larger-set = influence-theory-purged-proofs.larger-set-noninterference;
      U-in-component = influence-theory-exact-proofs.influence-in-component;
      U-lines-set = influence-theory-two-lines-proofs.lines-same-influence;
      U-lines = influence-theory-two-lines-proofs.lines-influence;
      U-runs = influence-theory-two-lines-proofs.runs-influence;
      U-rows = influence-theory-examples-proofs.every-influence-row;
      U-six-calls = influence-theory-examples-proofs.every-six-call-row;
      U-chains-not-enough = influence-theory-examples-proofs.chains-are-not-enough;
      K-each-part = repair-theory-claims-proofs.each-part-mended;
      K-mended-accepted = repair-theory-claims-proofs.mended-accepted;
      K-unmendable-refused = repair-theory-claims-proofs.unmendable-refused;
      K-sound-stays = repair-theory-claims-proofs.sound-stays;
      K-no-right-added = repair-theory-claims-proofs.no-right-added;
      K-no-right-in-any-reading = repair-theory-claims-proofs.no-right-in-any-reading;
      K-only-broken = repair-theory-claims-proofs.only-broken-altered;
      K-repair-accepted = repair-theory-repair-claims-proofs.every-repair-accepted;
      K-repair-mended = repair-theory-repair-claims-proofs.every-repair-mended;
      K-refusal-alters-nothing = repair-theory-repair-claims-proofs.every-refusal-alters-nothing;
      K-codes = repair-theory-repair-claims-proofs.every-repair-code;
      K-twice-is-enough = repair-theory-repair-claims-proofs.twice-the-table-is-enough;
      K-sound-table-stays = repair-theory-repair-claims-proofs.every-sound-table-stays;
      K-repair-adds-no-right = repair-theory-repair-claims-proofs.every-repair-adds-no-right;
      K-repair-only-broken = repair-theory-repair-claims-proofs.every-repair-alters-only-broken;
      K-reported-exactly = repair-theory-repair-claims-proofs.every-repair-reported-exactly;
      K-put-back = repair-theory-repair-claims-proofs.every-repair-put-back;
      K-sound-rows = repair-theory-examples-proofs.every-sound-row;
      K-rights-rows = repair-theory-examples-proofs.every-rights-row;
      K-queue-rows = repair-theory-examples-proofs.every-queue-row;
      K-list-rows = repair-theory-examples-proofs.every-list-row;
      K-frame-rows = repair-theory-examples-proofs.every-frame-row;
      K-put-back-rows = repair-theory-examples-proofs.put-back-rows;
      L-same = working-theory-two-runs-proofs.both-give-the-same;
      L-simulates = working-theory-simulation-proofs.calls-simulate;
      L-loaded = working-load-loaded-proofs.loaded-represents;
      L-stored = working-load-stored-proofs.store-is-table;
      L-loaded-once = working-load-run-proofs.every-run-loaded-once;
      L-rights-loaded = rights-matrix-theory-rights-proofs.loaded-rights;
      L-rights-put = rights-matrix-theory-rights-proofs.put-is-held;
      L-rights-stored = rights-matrix-theory-rights-proofs.stored-rights;
      L-rights-row-loaded = rights-matrix-theory-examples-proofs.taken_in;
      L-rights-row-stored = rights-matrix-theory-examples-proofs.put-out;
      L-ring-loaded = ring-theory-simulation-proofs.loaded-ring-represents;
      L-ring-simulates = ring-theory-simulation-proofs.queues-simulate;
      L-ring-stored = ring-theory-simulation-proofs.store-is-queue;
      L-ring-rows = ring-theory-examples-proofs.every-ring;
      M-served-in-time = turns-theory-in-time-proofs.served-in-time;
      M-every-call-served = turns-theory-in-time-proofs.every-call-served-in-time;
      M-all-served = turns-theory-in-time-proofs.all-served-in-time;
      M-one-list = turns-theory-histories-proofs.as-one-list;
      M-noninterference = turns-theory-histories-proofs.history-noninterference;
      M-in-order = turns-theory-histories-proofs.in_order;
      M-serves-first = turns-theory-order-proofs.serves-first;
      M-starts-after-last = turns-theory-order-proofs.starts-after-last;
      M-words-used-again = turns-theory-order-proofs.served-words-used-again;
      M-idle-exactly = turns-theory-histories-proofs.idle-exactly;
      M-idle = turns-theory-histories-proofs.idle-changes-nothing;
      M-hand-in-codes = turns-theory-codes-proofs.hand-in-code;
      M-turn-codes = turns-theory-codes-proofs.turn-code;
      M-refused = turns-theory-histories-proofs.refused-changes-nothing;
      M-begins-proper = turns-theory-histories-proofs.begins-proper;
      M-stays-proper = turns-theory-histories-proofs.stays-proper;
      M-serves-own = turns-theory-histories-proofs.serves-own;
      M-order-rows = turns-theory-examples-proofs.every-turn-row;
      M-pending-rows = turns-state-examples-proofs.every-pending-row;
      M-words-begin = turns-claims-proofs.begins;
      M-words-hand-in = turns-claims-proofs.every-hand-in;
      M-words-turn = turns-claims-proofs.every-turn;
      M-words-served-next = turns-one-event-proofs.every-served-next;
      M-words-begin-refused = turns-one-event-proofs.refused-begin-changes-nothing;
      M-words-hand-in-refused = turns-one-event-proofs.refused-hand-in-changes-nothing;
      M-words-turn-unserved = turns-one-event-proofs.unserved-turn-changes-nothing;
      M-word-history = turns-word-history-proofs.every-word-history;
      M-words-served-in-time = turns-service-proofs.served-in-time-by-words;
      M-words-every-call-served = turns-service-proofs.every-call-served-by-words;
      M-words-all-served = turns-service-proofs.all-served-by-words;
      M-from-the-beginning = turns-word-history-proofs.from-the-beginning;
      M-holders-throughout = turns-service-proofs.holders-throughout;
      M-begin-rows = turns-examples-proofs.every-begin-row;
      M-turn-rows = turns-examples-proofs.every-turn-row;
    }
