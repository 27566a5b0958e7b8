-- What is claimed, on one page: a field for each closed claim in the specs of a crate, of documents 01 and 02 and of our own. The
-- worked example is first, then come the sections of document 01 and the requests of document 02, in this order but for a few
-- headings of our own. A field's type is the claim as its crate states it. What is claimed of the words that a function leaves is in
-- its contract.
use Rattle.codes_theory.specs.Claims as codes-theory-claims
use Rattle.holders_theory.specs.Claims as holders-theory-claims
use Rattle.holders_theory.specs.Examples as holders-theory-examples
use Rattle.influence_theory.specs.Claims as influence-theory-claims
use Rattle.influence_theory.specs.Examples as influence-theory-examples
use Rattle.input_words.specs.Bytes as input-words-bytes
use Rattle.isolation_theory.specs.Component as isolation-theory-component
use Rattle.isolation_theory.specs.ComponentExamples as isolation-theory-component-examples
use Rattle.isolation_theory.specs.LineExamples as isolation-theory-line-examples
use Rattle.isolation_theory.specs.TwoLines as isolation-theory-two-lines
use Rattle.kernel.specs.AskedAfterStep as kernel-asked-after-step
use Rattle.kernel.specs.StepIsRun as kernel-step-is-run
use Rattle.linerun_input.specs.Stage as linerun-input-stage
use Rattle.linerun_report.specs.Cursor as linerun-report-cursor
use Rattle.linerun_report.specs.Examples as linerun-report-examples
use Rattle.linerun_report.specs.Report as linerun-report-report
use Rattle.linetotals_input.specs.Examples as linetotals-input-examples
use Rattle.linetotals_report.specs.Claims as linetotals-report-claims
use Rattle.linetotals_theory.specs.Claims as linetotals-theory-claims
use Rattle.linetotals_theory.specs.Examples as linetotals-theory-examples
use Rattle.linetotals_theory.specs.Sheet as linetotals-theory-sheet
use Rattle.machine.specs.AnswerClaims as machine-answer-claims
use Rattle.machine.specs.AnyWordsExamples as machine-any-words-examples
use Rattle.machine.specs.AsBefore as machine-as-before
use Rattle.machine.specs.CallClaims as machine-call-claims
use Rattle.machine.specs.CodeExamples as machine-code-examples
use Rattle.machine.specs.CountExamples as machine-count-examples
use Rattle.machine.specs.Examples as machine-examples
use Rattle.machine.specs.FieldExamples as machine-field-examples
use Rattle.machine.specs.MachineClaims as machine-machine-claims
use Rattle.machine.specs.Promise as machine-promise
use Rattle.machine.specs.PromiseClaims as machine-promise-claims
use Rattle.machine.specs.PurgeExamples as machine-purge-examples
use Rattle.machine.specs.QueueClaims as machine-queue-claims
use Rattle.machine.specs.Shortcuts as machine-shortcuts
use Rattle.machine.specs.TableExamples as machine-table-examples
use Rattle.machine.specs.WordClaims as machine-word-claims
use Rattle.potential_theory.specs.Claims as potential-theory-claims
use Rattle.potential_theory.specs.Examples as potential-theory-examples
use Rattle.queue.specs.LaterSlots as queue-later-slots
use Rattle.reachability.specs.Chain as reachability-chain
use Rattle.reachability.specs.Examples as reachability-examples
use Rattle.repair_theory.specs.Claims as repair-theory-claims
use Rattle.repair_theory.specs.Examples as repair-theory-examples
use Rattle.repair_theory.specs.RepairClaims as repair-theory-repair-claims
use Rattle.rights_matrix_theory.specs.Claims as rights-matrix-theory-claims
use Rattle.rights_matrix_theory.specs.Examples as rights-matrix-theory-examples
use Rattle.ring_theory.specs.Claims as ring-theory-claims
use Rattle.ring_theory.specs.Examples as ring-theory-examples
use Rattle.rules.specs.Readings as rules-readings
use Rattle.table_check_bytes.specs.Bytes as table-check-bytes-bytes
use Rattle.text.specs.Decimal as text-decimal
use Rattle.totals_add.specs.Tallied as totals-add-tallied
use Rattle.totals_theory.specs.Claims as totals-theory-claims
use Rattle.totals_theory.specs.Examples as totals-theory-examples
use Rattle.turns.specs.Claims as turns-claims
use Rattle.turns.specs.Examples as turns-examples
use Rattle.turns.specs.WordHistory as turns-word-history
use Rattle.turns_state.specs.Examples as turns-state-examples
use Rattle.turns_theory.specs.Claims as turns-theory-claims
use Rattle.turns_theory.specs.Examples as turns-theory-examples
use Rattle.working_load.specs.Claims as working-load-claims
use Rattle.working_load.specs.Run as working-load-run
use Rattle.working_theory.specs.Represents as working-theory-represents
use Rattle.working_theory.specs.TwoRuns as working-theory-two-runs
use Rattle.writer_theory.specs.Claims as writer-theory-claims
use Rattle.writer_theory.specs.Examples as writer-theory-examples
use Rattle.writer_theory.specs.ListClaims as writer-theory-list-claims
use Rattle.writer_theory.specs.Result as writer-theory-result
use Rattle.writer_theory.specs.RowExamples as writer-theory-row-examples

pub record Promises : Type 0 where
  -- ---- Document 01, "Into firmware and onto the bench": the worked example and its edges
  -- The worked example L and its edges, P1 to P12: one list of rows under one claim.
  pub D-rows : machine-examples.EveryRow machine-examples.rows
  -- ---- Document 01, "The table", "The calls" and "Where each number is checked": rows that pin what the worked example leaves
  -- open
  -- Every code from 10 to 23, most pairs of them in their order, what calls of the kinds 1 to 7 answer, a table in which the caller,
  -- the target and the owner differ, and the edges of the entry.
  pub D-codes : machine-examples.EveryRow machine-code-examples.code_rows
  -- The check of a table: rows for each kind of word, on both sides of each test, and the order of its places.
  pub D-tables : machine-table-examples.EveryTable machine-table-examples.table_rows
  -- The fields of a call, of a look up bit by bit and of the others by their lowest and highest bit, which words make one call,
  -- which right each call requires, and a queue through all its slots.
  pub D-fields : machine-examples.EveryRow machine-field-examples.field_rows
  -- Eight values that the definitions give for words that no check accepts.
  pub D-any-words : machine-any-words-examples.AnyWordsHold
  -- The counts and the order of messages of one list, of endpoint 1 and of endpoint 0.
  pub D-counts-row : machine-count-examples.CountRowHolds
  -- Bytes that are those of words of 32 bits get the code of the words.
  pub D-bytes-same-code : table-check-bytes-bytes.SameCode
  -- Bytes left over after the last whole word get 3, unless the first word is broken.
  pub D-bytes-left-over : table-check-bytes-bytes.LeftOver
  -- "Under four bytes is 2; a length that isn't four times the right one is 3", of any bytes: 2 also where the first word is broken,
  -- before 3; else the bytes have the code of their words.
  pub D-bytes-exactly : table-check-bytes-bytes.EveryBytesCode
  -- "The result is 0 or 2 to 5": the check of any bytes has one of these codes.
  pub D-bytes-codes : table-check-bytes-bytes.CodesOfBytes
  -- ---- Document 01, "The table" and "The calls": single words
  -- "So at most 641": an accepted table has no more words.
  pub D-table-short : machine-word-claims.EveryAcceptedShort
  -- "This cutting looks at kinds only": of two lists with the same kinds, word by word, the calls have the same numbers of words.
  pub D-split-by-kinds : machine-word-claims.EverySplitByKinds
  -- The words of the calls of a list, in order, are those of the list.
  pub D-split-keeps-words : machine-word-claims.EverySplitKeepsWords
  -- "The call's kind in bits 31–28, caller in bits 27–22 as found, code in bits 15–0, the rest zero": an answer's first word, for
  -- every code of 16 bits; the caller of a stray is 0.
  pub D-answer-word : machine-word-claims.EveryAnswerWord
  -- "Bit e is set for each endpoint e owned", and no other bit, in any words.
  pub D-owned-bits : machine-word-claims.EveryOwnedBits
  -- "Rights on target t in bits 4t to 4t+3 of the first data word; targets 8 to 15 likewise in the second": of the number that is
  -- made of a domain's rights on eight targets in an accepted table; no right is shown on what is no domain.
  pub D-rights-digits : machine-word-claims.EveryRightsDigits
  -- "A send answers 0 whether or not there was space", and so does a revoke "whether the holder had them or not": not refused, a
  -- send, a grant, a remove and a revoke answer 0 and two zero words, a receive the oldest message and the lost count, my endpoints
  -- and my rights the numbers of the two claims above, on any table.
  pub D-answers-by-kind : machine-answer-claims.EveryUnrefusedAnswer
  -- A look up that no place before 15 refuses finds an endpoint exactly where that has the name, and answers its index; it is
  -- refused by 15 exactly where none has the name, on an accepted table.
  pub D-look-up : machine-answer-claims.EveryLookUp
  -- "Space beyond three words a call is untouched": where the list ran, of the words that any function leaves which keeps the promise of
  -- a run. The count is that of the list's calls, the first three words a call are the machine's answers, the rest of the space is as it
  -- was, and so is its length.
  pub D-space-beyond : codes-theory-claims.EverySpaceBeyondUntouched
  -- ---- Document 01, "Where each number is checked": a refusal is by its number and changes nothing
  -- What the entry leaves keeps the promise of a run, for arbitrary words.
  pub D-entry-keeps : machine-promise.EveryEntryKeeps
  -- A step is a run of one call: where a list is one call and the answer space has at least three words, what the kernel's step
  -- leaves is what any function leaves that keeps the promise of a run: the same code, table and holders, and, where neither is
  -- refused, the same answer.
  pub D-step-is-run : kernel-step-is-run.StepIsRun
  -- "The first failing place decides": on any table, a call is refused by a code exactly where the first place of its kind that
  -- refuses, in the order of the paper's table, has it, and where none refuses the decision is its row.
  pub D-refused-exactly : machine-machine-claims.EveryCallRefusedExactly
  -- A refused call, wherever in a list, alters no table word, is answered with its number and two zero words, and the table at the
  -- end is that of a run without it.
  pub D-refusals : machine-machine-claims.EveryRunRefusalChangesNothing
  -- "An entry refusal answers its code and 0 calls and changes neither table nor answers", nor the holders: of the words that any
  -- function leaves which keeps the promise of a run.
  pub D-entry-refusal : machine-promise-claims.EveryRefusedRunChangesNothing
  -- "Where none fails, the code is 0": a call that no place of its kind refuses has an answer with the code 0, on any table.
  pub D-unrefused-zero : machine-word-claims.EveryUnrefusedAnsweredZero
  -- A call that isn't refused had what it requires, on any table: a send SEND on the endpoint's owner; a receive is by the owner,
  -- and a message waits; a grant GRANT and all that it gives, a remove REMOVE and all that it clears, a revoke REVOKE, and a grant
  -- and a revoke some right on the recipient or holder, unless that is the caller.
  pub D-requires : machine-call-claims.EveryCallRequires
  -- Nor does such a call name what 20 and 21 refuse, on any table: the target of a grant, of a remove and of a revoke, and the recipient
  -- or holder of a grant and of a revoke, are below n, and the set of rights of each is from 1 to 15.
  pub D-names-known : codes-theory-claims.EveryCallNamesKnown
  -- A call is refused by a code from 10 to 23, on any table.
  pub D-refusal-codes : machine-call-claims.EveryRefusalCode
  -- The check of any words as a table has the code 0 or one from 2 to 5.
  pub D-table-codes : machine-call-claims.EveryTableCode
  -- What each of these is for, by the layout of documents 01 and 02 (i), word by word: 2 exactly where the table is empty or word 0
  -- breaks its layout; then 3 exactly where the length differs; then 4 exactly where a rights word breaks its layout; then 5 exactly
  -- where an endpoint word does or a name repeats; 0 exactly where none of this is so.
  pub D-table-exactly : codes-theory-claims.EveryTableCodeExactly
  -- The entry's code is at most 6, for arbitrary words.
  pub D-entry-codes : machine-call-claims.EveryEntryCode
  -- What each of these is for: 1 exactly where the list is above 4,096 words; then one from 2 to 5 exactly where it is the table's
  -- code; then 6 exactly where the answer space is under three words a call, or other than one word a domain is lent for the holders;
  -- 0 exactly where none of this is so.
  pub D-entry-exactly : codes-theory-claims.EveryEntryCodeExactly
  -- ---- Document 01, "Influence": what a call may alter, and what its answer may depend on
  -- A call on an accepted table leaves an accepted table, with the same unchanging parts.
  pub I-stays-accepted : machine-machine-claims.EveryCallStaysAccepted
  -- A run from an accepted table leaves an accepted table, with the same unchanging parts.
  pub I-run-stays-accepted : machine-machine-claims.EveryRunStaysAccepted
  -- "Owners, names and capacities never change": the same of the table that any function leaves which keeps the promise of a run,
  -- where the list ran.
  pub I-promised-accepted : machine-promise-claims.EveryPromisedRunStaysAccepted
  -- "Grant and remove alter one rights word": a word that a call on an accepted table alters is one
  -- that its row names, the rights word of a grant, a remove or a revoke, or a waiting, lost or slot word of the endpoint that a
  -- send or a receive has.
  pub I-alters-named : machine-word-claims.EveryCallAltersNamed
  -- "A send with space fills the slot at the waiting count and waiting rises by 1": on an accepted table these two words are
  -- written, and every other word of the table stays.
  pub I-send-with-space : machine-queue-claims.EverySendWithSpace
  -- Document 02 (a), "a full queue is now to drop its oldest message and put the newcomer last; lost still rises by 1": on an
  -- accepted table the other messages move up, the newcomer has the last slot that they had, lost rises by 1, staying at its
  -- largest, and every other word of the table stays.
  pub I-send-to-full : machine-queue-claims.EverySendToFull
  -- "A receive lowers waiting by 1, and the slot that comes free is F0000000": on an accepted table the other messages move up, and
  -- every other word of the table stays, the lost count too.
  pub I-receive-takes-out : machine-queue-claims.EveryReceiveTakesOut
  -- No other call alters an endpoint, on an accepted table: its twelve words stay unless the call is an unrefused send to it or
  -- receive from it.
  pub I-other-leaves-queue : machine-queue-claims.EveryOtherLeavesQueue
  -- "A call may alter only what belongs to domains its caller influences", on an accepted table.
  pub I-alters-only : machine-machine-claims.EveryCallAltersOnly
  -- A call's answer depends only on its own words, its caller's part and the unchanging parts, on an accepted table and any
  -- other.
  pub I-answer-depends : machine-machine-claims.EveryCallAnswerDepends
  -- Every right has a source, and none is lost except by its holder or by one that may revoke it, call by call: on an
  -- accepted table, for any two domains and each single right.
  pub I-each-right : machine-machine-claims.EveryCallEachRight
  -- Every right at the end of a run from an accepted table has a source.
  pub I-rights-provenance : machine-machine-claims.EveryRunRightsProvenance
  -- ---- Document 01, noninterference: "The rule is one statement about a whole list, not one for each call"
  -- From an accepted table: without every call whose caller is not in d's source set at that call, d sees the same: its answers,
  -- rights, queues and lost counts.
  pub N-noninterference : machine-machine-claims.EveryRunNoninterference
  -- Source sets at each call, the calls that are kept, and what d sees of the whole run, in rows.
  pub N-purge-rows : machine-purge-examples.EveryPurgeRow machine-purge-examples.purge_rows
  -- "Working out influence from the last table alone: a right used and then removed is missed": with source sets by the table at the
  -- end the rule is false.
  pub N-last-table-fails : machine-purge-examples.LastTableRuleFails
  -- "Telling a sender that the queue is full: the receiver then reaches the sender": with such answers the rule is false.
  pub N-showing-full-fails : machine-shortcuts.ShowingFullFails
  -- "Letting a refused send give up its second word as a stray: the cutting would depend on rights": by one rights word the same
  -- list has other calls.
  pub N-giving-up-fails : machine-shortcuts.GivingUpFails
  -- "Refusing a grant because the recipient already has the right: the recipient's rights show": with such answers the rule is
  -- false.
  pub N-refusing-held-fails : machine-shortcuts.RefusingHeldFails
  -- "Several pass the striking rule alone": a kernel that refuses every call and leaves its table passes it,
  pub N-refusing-all-passes : machine-shortcuts.RefusingAllPasses
  -- but its answers are not always the machine's, which the promise of a run requires.
  pub N-refusing-all-differs : machine-shortcuts.RefusingAllDiffers
  -- ---- Document 01, "Conditions of acceptance", 2: a kernel "inventing lost or call counts" is rejected
  -- Each call is answered by three words, on any table.
  pub C-answers : machine-machine-claims.EveryRunAnswered
  -- The call totals and lost counts of every endpoint are conserved by its queue, in a run from an accepted table.
  pub C-counts-conserved : machine-machine-claims.EveryRunCountsConserved
  -- Every queue is first in, first out, in a run from an accepted table.
  pub C-fifo-order : machine-machine-claims.EveryRunFifoOrder
  -- ---- What a call reads
  -- Two readings with the same rights among n domains, and the same owners, which are domains, and waiting counts of m endpoints, and
  -- the same endpoint for each name give one decision on every call.
  pub R-same-decision : rules-readings.SameDecision
  -- ---- The program linerun
  -- List L on table T, and what linerun prints for it, byte for byte, as document 01 shows it.
  pub P-linerun-rows : linerun-report-examples.EveryRow linerun-report-examples.rows
  -- "Little-endian words": a word of 32 bits has four bytes, of which byte k counts 256 ^ k, and the words of these bytes are the
  -- words.
  pub P-little-endian : input-words-bytes.EveryLittleEndian
  -- "All decimal": a number is written as its digits, whose value it is, the first of them not 0 unless the number is.
  pub P-decimal : text-decimal.EveryDecimal
  -- "The table's length in words, the table, then the list to the end": of such an input, with up to 641 table words and up to
  -- 4,096 list words, linerun prints what the entry answers for this table and this list.
  pub P-linerun-words : linerun-report-report.EveryWordsReported
  -- "It stops reading at list word 4,097 and gives 1, whatever bytes follow or are left over", and whatever is wrong with the table.
  pub P-linerun-long-list : linerun-report-report.EveryLongListStops
  -- "Input under 4 bytes; its first word above 641; fewer words than that follow; or bytes left after the last whole word", of a list
  -- of up to 4,096 words on a table of up to 641: each of these prints the first line only, with 7.
  pub P-linerun-seven : linerun-report-report.EverySeven
  -- "An entry refusal or 7 prints the first line only, with N 0".
  pub P-linerun-refused-alone : linerun-report-report.EveryRefusedAlone
  -- Before linerun reads anything, its stage is that after no byte.
  pub P-linerun-start : linerun-input-stage.EveryStart
  -- Parts that are read in order, each of at most as many bytes as are wanted, give the stage after their concatenation.
  pub P-linerun-step : linerun-input-stage.EveryStep
  -- The parts of the lines from line 0 on concatenate to the report.
  pub P-linerun-parts : linerun-report-cursor.PartsAreReport
  -- No line shows what was in the words that are lent for the answers, where they are enough for every list.
  pub P-linerun-every-space : linerun-report-report.EverySpace
  -- Where linerun wants no further byte, what follows changes nothing.
  pub P-linerun-nothing-follows : linerun-report-report.NothingFollows
  -- linerun lends space enough: code 6 never comes.
  pub P-linerun-never-six : linerun-report-report.NeverSix
  -- ---- Document 02 (b): a remove takes a set of rights, all or nothing
  -- A remove is all or nothing, on an accepted table.
  pub B-all-or-nothing : machine-machine-claims.EveryRemoveAllOrNothing
  -- A remove of one right has the same decision as in document 01, on any table.
  pub B-remove-of-one : machine-machine-claims.EveryRemoveOfOne
  -- ---- Document 02 (c): lists are written as well as read
  -- Calls that can be written are read back: decoding their words gives the calls.
  pub W-reads-back : writer-theory-claims.ReadsBack
  -- Two different lists of calls that can be written are never written in the same words.
  pub W-different-words : writer-theory-claims.DifferentWords
  -- A list that is read as calls past the four can be written, and is written as it came.
  pub W-writes-back : writer-theory-claims.WritesBack
  -- What is written, the reader takes past the four.
  pub W-taken-by-reader : writer-theory-claims.TakenByReader
  -- The reader's four are the machine's: a call that it takes past 10, 11, 13 and 14 is refused by none of them, on any table, and one
  -- that it doesn't take past them is refused by one of them on every table, unless by 12, which is tested before 13 and 14.
  pub W-four : writer-theory-list-claims.FourOfTheMachine
  -- Where the code is 0, decoding as many words as the answer says gives the calls that were passed.
  pub W-written-reads-back : writer-theory-list-claims.WrittenReadsBack
  -- A list that is read as calls past the four is written as it came, where there is space for it and it isn't longer than a
  -- list may be.
  pub W-written-as-it-came : writer-theory-list-claims.WrittenAsItCame
  -- A call needs at least one word, so more than 4,096 calls are more than 4,096 words.
  pub W-each-wants-a-word : writer-theory-list-claims.EachWantsAWord
  -- "30 .. with the number from 0 of the first such call; then 31, with 0, if the words would pass 4,096 or the lent space", or if more
  -- than 4,096 calls are counted, of which an array may lack some; where the code is 0, the number is that of the words written.
  pub W-codes : writer-theory-list-claims.EveryWritingCode
  -- "Neither writes a word", and what is written "leaves the space past" it.
  pub W-others-left : writer-theory-list-claims.OthersLeft
  -- No table refuses a written call by 10, 11, 13 or 14, of calls that are passed as values or as rows.
  pub W-no-table-refuses : writer-theory-list-claims.NoTableRefuses
  -- So where a list that was written runs, the answer to each of its calls has another code than these.
  pub W-no-run-refuses : writer-theory-list-claims.NoRunRefuses
  -- Of rows: where the code is 0, decoding as many words as the answer says gives the calls of the rows, and the rows of these are
  -- the ones that were passed.
  pub W-rows-read-back : writer-theory-list-claims.RowsReadBack
  -- Two different lists of rows that are written never give the same words.
  pub W-rows-different-words : writer-theory-list-claims.RowsDifferentWords
  -- A list that is read as calls past the four is written as it came by the rows of these calls, each word of which has 32 bits,
  -- where there is space for it and it isn't longer than a list may be.
  pub W-rows-written-as-it-came : writer-theory-list-claims.RowsWrittenAsItCame
  -- Results in one number, and the code and the number that each says.
  pub W-results : writer-theory-result.EveryResult
  -- Calls, the lent words, and the whole outcome.
  pub W-rows : writer-theory-examples.EveryRow writer-theory-examples.rows
  -- Each of 22 calls that cannot be written is refused by 30 as the third of four, and no word is written.
  pub W-bad-calls : writer-theory-examples.EveryBadCall
  -- Rows of five words, the lent words, and the whole outcome.
  pub W-five-words : writer-theory-row-examples.EveryRow writer-theory-row-examples.written_rows
  -- One call of each kind, with a value in every column that it uses; a value is passed as it is, whether it fits or not.
  pub W-each-kind : writer-theory-row-examples.EachKindHandedIn
  -- 19 rows with an unknown kind, with a value in a column that their kind does not use, or too short are no calls.
  pub W-no-calls : writer-theory-row-examples.NoCallsHandedIn
  -- ---- Document 02 (d): a receive leaves the slots from the waiting count on, whatever they hold
  -- Of any twelve words with 1 to 8 waiting, the slots from the waiting count on stay.
  pub Q-later-slots : queue-later-slots.LaterSlotsStay
  -- "Move only the waiting words and clear the one slot that comes free": of any twelve words with 1 to 8 waiting, name, info and lost
  -- count stay, waiting falls by 1, the messages after the oldest move up, and the slot that comes free is empty.
  pub Q-move-up : queue-later-slots.WaitingMoveUp
  -- Document 02 (d), "the same as before", of table words: of an endpoint's twelve words that the check accepts, with a message
  -- waiting, a receive leaves what it leaves where all the slots after the first move up.
  pub Q-as-before : machine-word-claims.EveryReceiveAsBefore
  -- "Every answer and every table word is the same as before": a run from an accepted table leaves the same table and answers as
  -- one in which each receive, and each send to a full queue, moves all the slots up.
  pub Q-run-as-before : machine-as-before.EveryRunAsBefore
  -- Words and what a receive leaves of them, with messages in the slots from the waiting count on too.
  pub Q-receive-rows : queue-later-slots.EveryReceive queue-later-slots.receive_rows
  -- ---- Document 02 (e): end-of-shift totals
  -- Sends plus waiting at the start are received plus lost plus waiting at the end, each the count of all calls as one list: from
  -- every accepted table, for every endpoint that it has.
  pub E-sheet : totals-theory-claims.SheetHolds
  -- The table that lists leave is the one that all their calls leave, run as one list.
  pub E-one-run : totals-theory-claims.OneRun
  -- The totals can be computed list by list.
  pub E-list-by-list : totals-theory-claims.ListByList
  -- From an accepted table, and of fewer than `most_added` lists: a list that is added and not refused makes the tally of the lists that
  -- of one list more.
  pub E-tally : totals-add-tallied.EveryTallyListByList
  -- Lists and their totals.
  pub E-totals-rows : totals-theory-examples.EveryRow totals-theory-examples.rows
  -- Bytes and the lists that they give: what is wanted first, what each code is for, and which of two comes first.
  pub E-input-rows : linetotals-input-examples.EveryRow linetotals-input-examples.rows
  -- Inputs and what linetotals prints, byte for byte.
  pub E-sheet-rows : linetotals-theory-examples.EveryRow linetotals-theory-examples.rows
  -- Rows: a byte after 65,536 empty lists gives 1, and after 65,535 it is a length word cut short.
  pub E-most-lists : linetotals-theory-examples.EveryMostListsRow
  -- "The table as linerun takes it, then each list with its length in words before it": such an input, with up to 641 table words and
  -- up to 65,536 lists of up to 4,096 words, gives just this table and these lists, and for an accepted table their totals are printed
  -- with code 0.
  pub E-input-read : linetotals-theory-claims.EveryInputRead
  -- "A refused list changes nothing and ends the sheet with the totals so far and its number": "1, before 7, for a length word above
  -- 4,096 or any length word after the 65,536th; 7 also for a list or length word cut short", of every such input and what follows it.
  pub E-list-refused : linetotals-theory-claims.EveryListRefused
  -- No input gives more than 65,536 lists.
  pub E-input-few : linetotals-theory-claims.EveryInputFew
  -- "A table refused by 7 or 2 to 5 prints that line alone, with N 0"; lists end with 0, 1 or 7.
  pub E-codes : linetotals-theory-claims.EveryCode
  -- Whatever follows, the sheet stays: after a length word of the table above 641, after a refused table, "before any list is looked
  -- at", and after code 1.
  pub E-refusal-final : linetotals-theory-claims.EveryRefusalFinal
  -- Where linetotals wants no further byte, what follows changes nothing.
  pub E-nothing-follows : linetotals-theory-sheet.NothingFollows
  -- The lines that linetotals prints for an accepted table have the totals of all calls as one list, and these balance.
  pub E-printed : linetotals-theory-sheet.EveryPrintedConserved
  -- From an accepted table no entry refuses a list that is counted, each run from the table that the one before left.
  pub E-lists-run : linetotals-theory-sheet.EveryListRuns
  -- Where linetotals' space is large enough: parts of the lengths that were wanted, in order, give the sheet of all of them once
  -- nothing more is wanted; each byte was needed, and while all come that are wanted, as many are wanted as the definition says.
  pub E-reading : linetotals-report-claims.EveryReading
  -- ---- Document 02 (g): the isolation rule between two lines
  -- The isolation rule between two lines, of the machine fed any calls, however many.
  pub G-lines : isolation-theory-two-lines.IsolationBetweenLines
  -- The isolation rule between two runs of the kernel on one list: what it left on both lines looks the same to d, and the source
  -- set of d computed on the second table is the same too.
  pub G-runs : isolation-theory-two-lines.IsolationBetweenRuns
  -- Pairs of lines, and on each the source set of a domain and what it sees.
  pub G-rows : isolation-theory-line-examples.EveryLineRow isolation-theory-line-examples.line_rows
  -- Two lines, of which the rows above say what differs, meet the condition for domain 0.
  pub G-condition-met : isolation-theory-line-examples.ConditionMet
  -- Equal parts of each member are not enough: without the rights held on a member the rule is false.
  pub G-parts-not-enough : isolation-theory-line-examples.PartsAreNotEnough
  -- Nor is it enough to agree on d alone,
  pub G-own-part-not-enough : isolation-theory-line-examples.OwnPartIsNotEnough
  -- nor on the source set of the calls run from the table that they left.
  pub G-last-table-not-enough : isolation-theory-line-examples.LastTableIsNotEnough
  -- ---- Document 02 (h): who can reach the drives right now
  -- Bit h of word g of a table's holders says whether h has any right on g.
  pub H-say : holders-theory-claims.HoldersSay
  -- "One word a domain": a table's holders are as many as its domains,
  pub H-one-word : holders-theory-claims.HoldersOneWord
  -- and no word has a bit from that count on.
  pub H-no-other : holders-theory-claims.HoldersNoOther
  -- Noting what a call alters turns the holders of an accepted table before it into those of the table after it, computed afresh.
  pub H-kept : holders-theory-claims.HoldersKept
  -- Noted from an accepted table on, the words are the holders of the table after each of any calls: after the first k, for any k.
  pub H-kept-along : holders-theory-claims.HoldersKeptAlong
  -- "From the start of a list that runs, and after every call": after the first k calls of a list that ran, for any k, the holders
  -- as they are defined to be noted call by call are those of the table then, and a run of these calls alone runs and leaves them.
  pub H-after-every-call : holders-theory-claims.HoldersAfterEveryCall
  -- "32, with no domain named, if the words aren't 1 to 16, one has a bit from their number on, or the domain isn't below it", and 0 if
  -- none of this is so: of any words.
  pub H-codes : holders-theory-claims.EveryAskCode
  -- Of any words that can be asked, the set holds exactly those that have a chain in these words, d itself among them.
  pub H-asked-exactly : holders-theory-claims.AskedExactly
  -- The holders of an accepted table can be asked about each of its domains: the set holds exactly those that have a chain of
  -- rights to it in that table.
  pub H-asked-now : holders-theory-claims.AskedNow
  -- The holders that a run left can be asked about each domain: the set holds exactly those that have a chain of rights to it in
  -- the table that the run left.
  pub H-asked-after-run : holders-theory-claims.AskedAfterRun
  -- The holders that a single call left are those of the table that it left: the set holds exactly those that have a chain of
  -- rights to the domain in that table.
  pub H-asked-after-step : kernel-asked-after-step.AskedAfterStep
  -- The closure of the set s holds exactly those that have a chain to a member of s, whatever the words and the set.
  pub H-closed-exactly : reachability-chain.ClosedExactly
  -- For any relation below n, the closure of d alone holds exactly those that have a chain to d.
  pub H-relation-closed-exactly : reachability-chain.RelationClosedExactly
  -- Relations and their closures.
  pub H-closure-rows : reachability-examples.EveryClosureRow reachability-examples.closure_rows
  -- Tables and their holders.
  pub H-table-rows : holders-theory-examples.EveryHoldersRow holders-theory-examples.table_rows
  -- Single changes and the holders after them.
  pub H-change-rows : holders-theory-examples.EveryHoldersRow holders-theory-examples.change_rows
  -- Words that are asked, and the answer.
  pub H-asking-rows : holders-theory-examples.EveryHoldersRow holders-theory-examples.asking_rows
  -- ---- Document 02 (j): connected components, which no list joins
  -- A component is exactly what is connected with its domain, in arbitrary words.
  pub J-component : isolation-theory-component.EveryComponent
  -- "Call what hangs together a group": all that is in a component has the same component, in arbitrary words.
  pub J-shared : isolation-theory-component.EveryComponentShared
  -- A component holds domains alone, so that a call of an unknown caller is purged whatever the table.
  pub J-of-domains : isolation-theory-component.EveryComponentOfDomains
  -- No run from an accepted table lets influence cross components: at its end no domain influences one outside the component that
  -- it had at the start.
  pub J-stay : isolation-theory-component.EveryRunComponentsStay
  -- So components only come apart: the component of a domain after any run lies within the one that it had at the start.
  pub J-within : isolation-theory-component.EveryRunComponentsWithin
  -- From an accepted table: without every call whose caller is not in d's component, d sees the same.
  pub J-noninterference : isolation-theory-component.EveryRunComponentNoninterference
  -- The same of the words that the kernel left, for any list that runs,
  pub J-run-stay : isolation-theory-component.EveryPromisedRunComponentsStay
  -- the component of a domain in the table left lies within the one that it had at the start,
  pub J-run-within : isolation-theory-component.EveryPromisedRunComponentsWithin
  -- and d sees the same without the calls from outside its component.
  pub J-run-noninterference : isolation-theory-component.EveryPromisedRunComponentNoninterference
  -- Tables and their components.
  pub J-rows : isolation-theory-component-examples.EveryComponentRow isolation-theory-component-examples.component_rows
  -- ---- Which rights any list could ever give
  -- The rights computed of an accepted table are exactly the potential ones.
  pub V-exact : potential-theory-claims.EveryPotentialRight
  -- Whatever calls are run from an accepted table, however many, refused or not: if their known callers are in s, they give only
  -- what is potential.
  pub V-run-within : potential-theory-claims.EveryRunWithinPotential
  -- The same of the words that the kernel left, for any list that runs.
  pub V-promised-run-within : potential-theory-claims.EveryPromisedRunWithinPotential
  -- What all domains together can bring about bounds all calls whatsoever, run from an accepted table.
  pub V-run-within-everyone : potential-theory-claims.EveryRunWithinEveryone
  -- The same of the words that the kernel left, for any list that runs.
  pub V-promised-run-within-everyone : potential-theory-claims.EveryPromisedRunWithinEveryone
  -- Nothing new becomes possible: what is potential after calls of s, run from an accepted table, was so before them.
  pub V-nothing-new : potential-theory-claims.EveryRunNothingNew
  -- There is one list that gives all of them from an accepted table, and it is computed.
  pub V-list-gives-all : potential-theory-claims.EveryPotentialListGivesAll
  -- A run of that list by the kernel leaves them.
  pub V-run-gives-all : potential-theory-claims.EveryPromisedRunGivesAll
  -- Outside its component in an accepted table nothing is potential for a domain, whoever acts.
  pub V-in-component : potential-theory-claims.EveryPotentialInComponent
  -- Tables, who acts, and the potential rights.
  pub V-rows : potential-theory-examples.EveryPotentialRow potential-theory-examples.potential_rows
  -- ---- Who could ever influence whom
  -- On an accepted table, the computed set is exactly those that could influence d: d, and each that acts from which a chain of
  -- potential rights leads to d, through others that act.
  pub U-computed : influence-theory-claims.EveryCouldInfluence
  -- It holds domains alone, so that a call of an unknown caller is purged.
  pub U-of-domains : influence-theory-claims.EveryInfluenceOfDomains
  -- Whatever calls are run from an accepted table, however many, refused or not: if their known callers are in s, each source of d
  -- is in the set.
  pub U-sources-within : influence-theory-claims.EverySourceCouldInfluence
  -- On an accepted table one list, which is computed, makes all of them sources, of every domain at once.
  pub U-list-makes-all : influence-theory-claims.EveryInfluenceListMakesAll
  -- So on an accepted table u is a source of d over some list of calls by domains of s exactly where u is d or such a chain leads
  -- from it to d.
  pub U-sources-exactly : influence-theory-claims.EverySourceExactly
  -- Who could influence d after calls of s, run from an accepted table, could do so before them.
  pub U-nobody-new : influence-theory-claims.EveryRunNobodyNew
  -- Of calls from an accepted table whose known callers are in s: purge every call whose caller could not influence d, strays too,
  -- and d sees the same.
  pub U-noninterference : influence-theory-claims.EveryRunInfluenceNoninterference
  -- The same of the words that the kernel left, for any list that runs and whose known callers are in s.
  pub U-run-noninterference : influence-theory-claims.EveryPromisedRunInfluenceNoninterference
  -- With all domains as actors nothing is asked of the callers: of the machine from an accepted table,
  pub U-everyone-noninterference : influence-theory-claims.EveryRunEveryoneNoninterference
  -- and of the words that the kernel left, for any list that runs.
  pub U-run-everyone-noninterference : influence-theory-claims.EveryPromisedRunEveryoneNoninterference
  -- With all domains as actors the known callers of any calls are among them.
  pub U-every-caller : influence-theory-claims.EveryCallerIsKnown
  -- Of the machine, from an accepted table and with the known callers in s: the same by any larger set, which has at least those
  -- that could influence d.
  pub U-larger-set : influence-theory-claims.EveryLargerSetNoninterference
  -- Connected components are such sets: on an accepted table the component of d has all that could influence d, whoever acts.
  pub U-in-component : influence-theory-claims.EveryInfluenceInComponent
  -- On two lines that agree on each that could influence d, as (g) asks of its sources, the set is the same,
  pub U-lines-set : influence-theory-claims.EveryLinesSameInfluence
  -- and d sees the same of any calls run from both, where their known callers are in s.
  pub U-lines : influence-theory-claims.EveryLinesInfluence
  -- The same of the words that two runs of the kernel on one such list left.
  pub U-runs : influence-theory-claims.EveryRunsInfluence
  -- Tables, who acts, and who could influence each domain; and, along six calls, who has a chain of rights to a domain in each table.
  pub U-rows : influence-theory-examples.EveryInfluenceRow influence-theory-examples.influence_rows
  -- The source sets along these six calls, what is kept and what the domain sees, and the same without the first three.
  pub U-six-calls : machine-purge-examples.EveryPurgeRow influence-theory-examples.six_call_rows
  -- Chains of rights in the tables along a run are not enough: who has none in any of them can still be seen at d.
  pub U-chains-not-enough : influence-theory-examples.ChainsAreNotEnough
  -- ---- Document 02 (k): a damaged table is repaired, and no right is added
  -- Where word 0 and the length are right, each holder's rights word on each target and each endpoint is mended.
  pub K-each-part : repair-theory-claims.EachPartMended
  -- A table that can be mended is accepted once it is mended.
  pub K-mended-accepted : repair-theory-claims.MendedAccepted
  -- One that cannot be mended is still refused, so that 33 is answered only where mending is not enough.
  pub K-unmendable-refused : repair-theory-claims.UnmendableRefused
  -- A sound table stays.
  pub K-sound-stays : repair-theory-claims.SoundStays
  -- Mending adds no right, a word read by its bits,
  pub K-no-right-added : repair-theory-claims.NoRightAdded
  -- nor in any other reading of a word, so long as 20000000 shows none.
  pub K-no-right-in-any-reading : repair-theory-claims.NoRightInAnyReading
  -- Mending alters no other word than a broken rights word and the queue words of an endpoint with a broken one.
  pub K-only-broken : repair-theory-claims.OnlyBrokenAltered
  -- What results passes the check.
  pub K-repair-accepted : repair-theory-repair-claims.EveryRepairAccepted
  -- "A broken rights word becomes 20000000. An endpoint with a broken waiting, lost or slot word gets an empty queue, lost 0": each
  -- rights word and each endpoint, in what any function leaves which keeps the promise of a repair, where its code is 0.
  pub K-repair-mended : repair-theory-repair-claims.EveryRepairMended
  -- A refusal alters neither the table nor the list.
  pub K-refusal-alters-nothing : repair-theory-repair-claims.EveryRefusalAltersNothing
  -- "33 .. then 34 if the lent list is too short": 33 exactly where mending is not enough, then 34 exactly where the list has fewer than
  -- two words for each word that mending alters, else 0.
  pub K-codes : repair-theory-repair-claims.EveryRepairCode
  -- For a table that can be mended a list of twice as many words as it has is enough.
  pub K-twice-is-enough : repair-theory-repair-claims.TwiceTheTableIsEnough
  -- A sound table stays and yields an empty list.
  pub K-sound-table-stays : repair-theory-repair-claims.EverySoundTableStays
  -- No holder has a right at the end that its word didn't show before, read by its bits or in any other reading in which 20000000
  -- shows none.
  pub K-repair-adds-no-right : repair-theory-repair-claims.EveryRepairAddsNoRight
  -- Only broken words, and the queue words of an endpoint with one, are altered.
  pub K-repair-only-broken : repair-theory-repair-claims.EveryRepairAltersOnlyBroken
  -- The pairs at the front of the list report exactly the words that were altered, lowest place first, each by its place and its
  -- old content; the words after them stay.
  pub K-reported-exactly : repair-theory-repair-claims.EveryRepairReportedExactly
  -- The old table can be restored: the pairs put back into the table that was left give the table as it was.
  pub K-put-back : repair-theory-repair-claims.EveryRepairPutBack
  -- A sound table stays and yields an empty list, of words and of none.
  pub K-sound-rows : repair-theory-examples.EveryRow repair-theory-examples.sound_rows
  -- Tables with a broken rights word, the last among them: it becomes 20000000.
  pub K-rights-rows : repair-theory-examples.EveryRow repair-theory-examples.rights_rows
  -- Tables of which an endpoint has a broken waiting or slot word: it is emptied. Words that already are those of an empty
  -- queue are not reported; a sound lost count that is not 0 is.
  pub K-queue-rows : repair-theory-examples.EveryRow repair-theory-examples.queue_rows
  -- The lent list longer than needed, of exactly two words for each altered word, and one word less.
  pub K-list-rows : repair-theory-examples.EveryRow repair-theory-examples.list_rows
  -- Tables that are refused by 33: for word 0, the length, a name, an info, or a name that repeats.
  pub K-frame-rows : repair-theory-examples.EveryRow repair-theory-examples.frame_rows
  -- Pairs that are put back in their order, and a word left over that is ignored.
  pub K-put-back-rows : repair-theory-examples.PutBackHolds
  -- ---- Document 02 (l): the working layout, with the same answers, the same holders and, stored, the same table words
  -- Two runs that keep the promise of a run from the same words, as `kernel::run` and `run_working` do by their contracts, leave
  -- the same, on every table, accepted or not, and every list.
  pub L-same : working-theory-two-runs.BothGiveTheSame
  -- On a state that represents an accepted table, every call simulates the call on the table.
  pub L-simulates : working-theory-represents.CallsSimulate
  -- A state loaded from an accepted table represents it.
  pub L-loaded : working-load-claims.LoadedRepresents
  -- A state stored to an accepted table is the accepted table that it represents, where both have the same unchanging parts.
  pub L-stored : working-load-claims.StoreIsTable
  -- Loaded once and stored once, at the end: a state loaded from an accepted table, on which any calls run one after the other with no
  -- table beside it, gives the machine's answers and, stored after them, the machine's table; the table's holders, noted after each
  -- of these calls by what the state says, are those of the table at the end.
  pub L-loaded-once : working-load-run.EveryRunLoadedOnce
  -- Rows loaded from an accepted table represent its rights.
  pub L-rights-loaded : rights-matrix-theory-claims.LoadedRights
  -- What is put into sixteen rows of sixteen is held, and nothing else in them is altered.
  pub L-rights-put : rights-matrix-theory-claims.PutIsHeld
  -- Rows stored to a table with words enough for its rights are its rights words, and its other words stay.
  pub L-rights-stored : rights-matrix-theory-claims.StoredRights
  -- A row of what each domain holds on each, and of what is held on and by a domain that is not there.
  pub L-rights-row-loaded : rights-matrix-theory-examples.RowLoaded
  -- A row where domain 0's rights on 1 become 15 and are stored: the header and the word after the rights words stay.
  pub L-rights-row-stored : rights-matrix-theory-examples.RowStored
  -- A ring loaded from a queue in which at most 8 wait represents it.
  pub L-ring-loaded : ring-theory-claims.LoadedRingRepresents
  -- Of twelve words with a capacity of 1 to 8: a send of a message of 28 bits, to a full queue too, and a receive, where one waits,
  -- leave a ring that represents what they leave of the queue.
  pub L-ring-simulates : ring-theory-claims.QueuesSimulate
  -- A ring that represents twelve words with a sound queue, stored to twelve words with the same name and info, gives these words.
  pub L-ring-stored : ring-theory-claims.StoreIsQueue
  -- Rings whose places wrap round and full rings: what a send, a receive, loading and storing make of them.
  pub L-ring-rows : ring-theory-examples.EveryRing ring-theory-examples.ring_rows
  -- ---- Document 02 (m): turns
  -- Served in time: from an accepted table, the oldest pending call of a domain is served within n turns that aren't refused,
  -- whatever is handed in.
  pub M-served-in-time : turns-theory-claims.ServedInTime
  -- Every pending call: the one after k others of its domain is served within (1 + k) · n turns that aren't refused.
  pub M-every-call-served : turns-theory-claims.EveryCallServedInTime
  -- So a domain with at most 16 words pending has each of their calls served within 16 · n turns that aren't refused.
  pub M-all-served : turns-theory-claims.AllServedInTime
  -- As one list: the calls served, in order, have the answers, the table at the end and the holders after each call that the
  -- machine gives for them, however long the history, from arbitrary words as a table.
  pub M-one-list : turns-theory-claims.AsOneList
  -- Of every history from an accepted table, for every domain: it sees of the calls served what it sees of the machine that is
  -- fed only the kept ones.
  pub M-noninterference : turns-theory-claims.EveryHistoryNoninterference
  -- The calls of a domain that were served, and then those still pending, are those that were pending, and then those that it
  -- handed in: none is lost, none is served twice, and each is served in its order.
  pub M-in-order : turns-theory-claims.InOrder
  -- "Goes up and round to 0, and serves the oldest call of the first domain that has one": a turn among n domains serves a call of a
  -- domain exactly where the call is its oldest and no domain that is searched before it, from the place of the turn upward and then
  -- from 0, has one pending.
  pub M-serves-first : turns-theory-claims.ServesFirst
  -- "A turn starts after the domain served last .. the first turn of all starts at 0": after any history the place of the turn is after
  -- the domain served last, or where it was if no call was served; at the beginning it is 0.
  pub M-starts-after-last : turns-theory-claims.StartsAfterLast
  -- "Words of served calls are used again": after a turn that served a call of a domain, which had at most 16 words pending, that domain
  -- can hand in a call that is no longer.
  pub M-words-used-again : turns-theory-claims.ServedWordsUsedAgain
  -- A turn is idle exactly where none of the n domains has a call pending.
  pub M-idle-exactly : turns-theory-claims.IdleExactly
  -- With none pending on an accepted table, a turn that is lent n holders has code 0 and leaves table, pending calls and place as
  -- they are, however few words are lent for an answer.
  pub M-idle : turns-theory-claims.IdleChangesNothing
  -- "35 if the domain isn't below n; then 36 if the words aren't exactly one call, no stray, with that caller; then 37 if its pending
  -- words would pass 16", 2 to 5 before these, and 0 where none of this is so: of arbitrary words as a table.
  pub M-hand-in-codes : turns-theory-claims.EveryHandInCode
  -- "2 to 5 first, on a turn as well, and there then 6" if other than n holders are lent; then 6 too if a call is to be served and fewer
  -- than three words are lent for its answer, and 0 where none of this is so: likewise.
  pub M-turn-codes : turns-theory-claims.EveryTurnCode
  -- A refused event leaves table, pending calls and place as they are.
  pub M-refused : turns-theory-claims.RefusedChangesNothing
  -- The beginning is proper: each domain has at most 16 words pending, calls of its own, and an index that is no domain has none.
  pub M-begins-proper : turns-theory-claims.BeginsProper
  -- A history from an accepted table and a proper state leaves a proper state.
  pub M-stays-proper : turns-theory-claims.StaysProper
  -- From an accepted table and a proper state, a turn serves a domain's own calls.
  pub M-serves-own : turns-theory-claims.ServesOwn
  -- Histories and which calls their turns serve.
  pub M-order-rows : turns-theory-examples.EveryTurnRow turns-theory-examples.turn_rows
  -- Seventeen words of one domain, and those of them that are pending.
  pub M-pending-rows : turns-state-examples.EveryPendingRow turns-state-examples.pending_rows
  -- Words that are all 0, however many, represent the beginning.
  pub M-words-begin : turns-claims.Begins
  -- Handing in, in a state of the right length: the code is the one for what the words represent, and so is what they represent
  -- then.
  pub M-words-hand-in : turns-claims.EveryHandIn
  -- A turn, in a state of the right length: likewise.
  pub M-words-turn : turns-claims.EveryTurn
  -- A turn that keeps its promise and served a call: by the state's words that it was lent, its domain is the first that has one
  -- pending and the call is its oldest; in those that it left the call is gone and the place of the turn is after the domain.
  pub M-words-served-next : turns-claims.EveryServedNext
  -- "Nothing changes", of the words that are left as the contracts promise: a beginning that is refused leaves the state and the holders
  -- as they were,
  pub M-words-begin-refused : turns-claims.RefusedBeginChangesNothing
  -- handing in that is refused leaves the state,
  pub M-words-hand-in-refused : turns-claims.RefusedHandInChangesNothing
  -- and a turn that serves no call, since it is refused or idle, leaves the table, the state, the holders and the words lent for an
  -- answer.
  pub M-words-turn-unserved : turns-claims.UnservedTurnChangesNothing
  -- Events that keep the promises of their functions match a history: codes, turns, answers, holders, the calls accepted, and at the
  -- end the table, what is pending and the place of the turn, from any state of the right length.
  pub M-word-history : turns-word-history.EveryWordHistory
  -- Served in time, by the words: within n turns that aren't refused one of the history's events serves the oldest pending call of a
  -- domain, answers that one call was served, and has the machine's three answer words for it.
  pub M-words-served-in-time : turns-word-history.ServedInTimeByWords
  -- Likewise the call after k others of its domain, within (1 + k) · n turns that aren't refused.
  pub M-words-every-call-served : turns-word-history.EveryCallServedByWords
  -- And each pending call within 16 · n.
  pub M-words-all-served : turns-word-history.AllServedByWords
  -- From words that are all 0, events that keep the promises are as one list.
  pub M-from-the-beginning : turns-word-history.FromTheBeginning
  -- After a beginning, where each event is lent the holders that the one before it left, they are what the table says, at once and
  -- after every event.
  pub M-holders-throughout : turns-word-history.HoldersThroughout
  -- A beginning: whatever the words held, nothing is pending then, and the holders are what the table says.
  pub M-begin-rows : turns-examples.EveryRow turns-examples.begin_rows
  -- A turn that is refused: all words stay.
  pub M-turn-rows : turns-examples.EveryRow turns-examples.turn_rows
