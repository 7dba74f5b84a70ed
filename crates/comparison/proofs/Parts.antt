-- Cases by the parts of their bodies.
use Rattle.std.proofs.Common.{◌≡◌, ℕ, ◌+◌, ◌≤◌, false, cond, List, length, take, drop, slice_index, Some, None, Result, nat_lt, ap, ◌∙◌, sym, arith}
use Rattle.std.proofs.lemmas.Bool.Decides.{nat_tests}
use Rattle.std.specs.Option.{option_map}
use Rattle.item.specs.declared.fault.ItemFault.{ItemFault}
use Rattle.item.specs.Tickets.{ticket_items}
use Rattle.item.specs.Stamps.{stamp_items}
use Rattle.item.specs.Lanes.{lane_number, lane_named}
use Rattle.record.specs.Bytes.{number_in}
use Rattle.frame.specs.Kinds.{kind_number}
use Rattle.examination.specs.Kinds.{any_kind, seat_of}
use Rattle.comparison.specs.Words.{words_of_item}
use Rattle.comparison.specs.Cases.{of_parts, number_again, item_told, item_case}

module _ (head count : ℕ) (body : List ℕ) (say : List ℕ → List ℕ → List ℕ) where
  -- where both parts are there
  pub parts_there : {a b : List ℕ} → head + count ≤ length body → a ≡ take count (drop head body) → b ≡ drop count (drop head body) → Some (say a b) ≡ of_parts head count body say
  parts_there fits ea eb =
      let no : nat_lt (length body) (head + count) ≡ false = grind (arith, nat_tests) in
      rw (no, ea, eb)

module _ (body : List ℕ) where
  pub told_ticket : slice_index body 0 ≡ 0 → item_told (slice_index body 0) body ≡ Some (number_again ticket_items.number (ticket_items.named (number_in 1 8 body)))
  told_ticket e = rw e

  pub told_stamp : slice_index body 0 ≡ 1 → item_told (slice_index body 0) body ≡ Some (number_again stamp_items.number (stamp_items.named (number_in 1 8 body)))
  told_stamp e = rw e

  pub told_lane : slice_index body 0 ≡ 2 → item_told (slice_index body 0) body ≡ Some (number_again lane_number (lane_named (slice_index body 8)))
  told_lane e = rw e

  pub told_whole : (r : Result ℕ ItemFault) → 9 ≤ length body → item_told (slice_index body 0) body ≡ Some r → Some (words_of_item r) ≡ item_case body
  told_whole r long told =
      let no : nat_lt (length body) 9 ≡ false = grind (arith, nat_tests) in
      ap (option_map words_of_item) (sym told) ∙ ap (λ b. cond b None (option_map words_of_item (item_told (slice_index body 0) body))) (sym no)

-- a kind that a number is taken for has the seats of that number
pub any_seat : (n : ℕ) → seat_of (kind_number (any_kind n)) ≡ seat_of n
any_seat n = grind (arith, nat_tests)
