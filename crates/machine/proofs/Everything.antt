-- One name for the definitions of the machine and its counts, for a proof that computes with them: `unfolding everything`.
-- Assumes nothing.
use Rattle.machine.specs.Below.{all_below, numbers_below, first_below, sum_below, words_below, bits_below}
use Rattle.machine.specs.Right.{is_set, holds, adds, without, has_any}
use Rattle.machine.specs.Table.{domains, endpoints, rights_word, rights, endpoint, set_rights, set_endpoint}
use Rattle.machine.specs.Check as check
use Rattle.machine.specs.Call as call
use Rattle.machine.specs.Queue as queue
use Rattle.machine.specs.Machine as machine
use Rattle.machine.specs.Run.{run, answers}
use Rattle.machine.specs.Entry as «entry»
use Rattle.machine.specs.Influence.{reaches, influences}
use Rattle.machine.specs.Holders.{holders_of}
use Rattle.machine.specs.DomainSet.{member, caller_in, called_by}
use Rattle.machine.specs.Purge as purge
use Rattle.machine.specs.Counts as counts

unfoldable pub everything : Unit {0}
unfolding all_below numbers_below first_below sum_below words_below bits_below
    is_set holds adds without has_any
    domains endpoints rights_word rights endpoint set_rights set_endpoint
    check.header_word_ok check.rights_word_ok check.name_word_ok check.info_word_ok check.waiting_word_ok check.lost_word_ok
    check.slot_word_ok check.identity_ok check.queue_ok check.endpoint_ok check.name_new check.header_ok check.length_ok
    check.rights_ok check.endpoints_ok check.table_code
    call.first call.wants_second call.pairs call.split call.kind_of call.call_kind call.caller_of
    call.unused_fields call.all_zero call.has_second call.second_payload call.kind_number call.one_of
    queue.name queue.owner queue.capacity queue.waiting queue.lost queue.oldest queue.has_space queue.send_with_space
    queue.moved_up queue.received queue.send_to_full queue.sent
    machine.may_send machine.named machine.is_none machine.or_zero machine.places_of machine.first_refusal machine.row_of machine.decide
    machine.effect machine.after machine.step machine.owned_bits machine.rights_bits machine.code machine.data_words
    machine.shown_caller machine.answer_word machine.answer_to machine.answer
    run answers
    «entry».holders_code «entry».space_code «entry».entry_code «entry».refusal «entry».ran «entry».entry
    reaches influences holders_of
    member caller_in called_by
    purge.reaches_any purge.joined_by purge.sources purge.purge
    purge.answers_of purge.rights_of purge.owned_by purge.queues_of purge.lost_of purge.view
    counts.done_on counts.count_done counts.messages_from counts.messages_to counts.receives_from counts.sends_to counts.pushes_out
    counts.full_sends counts.message_of counts.taken_of counts.count_pushed counts.gone counts.messages
    counts.is_send counts.is_receive
everything = tt
