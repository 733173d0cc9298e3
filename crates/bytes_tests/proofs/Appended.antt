-- One record or block more at the end can be written too.
use Rattle.std.proofs.Common.{ℕ, suc, ◌≡◌, ◌≢◌, ◌≤◌, List, arith}
use Rattle.bc_stream.specs.Blocks.{Contents, no_more, a_record, a_block, append, HasNoBlockZero, levels}
use Rattle.bytes_tests.specs.Writable.{IsWritable}

no_zero_append : (c d : Contents) → HasNoBlockZero c → HasNoBlockZero d → HasNoBlockZero (append c d)
no_zero_append no_more d some more = more
no_zero_append (a_record code values rest) d some more = no_zero_append rest d some more
no_zero_append (a_block id inner rest) d some more = (some.0, some.1, no_zero_append rest d some.2 more)

levels_append : (most : ℕ) (c d : Contents) → levels c ≤ most → levels d ≤ most → levels (append c d) ≤ most
levels_append most no_more d some more = more
levels_append most (a_record code values rest) d some more = levels_append most rest d some more
levels_append most (a_block id inner rest) d some more =
    let behind : levels (append rest d) ≤ most = levels_append most rest d (omega arith) more in
    omega arith

pub with_record : (most : ℕ) (c d : Contents) (code : ℕ) (values : List ℕ) → d ≡ append c (a_record code values no_more) → IsWritable most c → IsWritable most d
with_record most c d code values is writable = rw is (record {
  no_block_zero = no_zero_append c (a_record code values no_more) writable.no_block_zero tt;
  nesting = levels_append most c (a_record code values no_more) writable.nesting (omega arith);
})

pub with_block : (most : ℕ) (c d inner : Contents) (id : ℕ) → d ≡ append c (a_block id inner no_more) → id ≢ 0 → IsWritable most inner → IsWritable (suc most) c → IsWritable (suc most) d
with_block most c d inner id is some inside writable = rw is (record {
  no_block_zero = no_zero_append c (a_block id inner no_more) writable.no_block_zero (some, inside.no_block_zero, tt);
  nesting = levels_append (suc most) c (a_block id inner no_more) writable.nesting (omega (arith, inside.nesting));
})
