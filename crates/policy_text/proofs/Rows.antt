-- Worked rows, computed by the definitions.
use Rattle.std.proofs.Common.{eq-eqb, ◌≡◌, ◌++◌, ℕ, List, ◌∷◌, [], refl, length, Some, None}
use Rattle.std.specs.Prelude.{codes, Ok, Err, ◌==◌, encode_utf8_all, true, false, replicate}
use Rattle.std.specs.Str.{all_scalars}
use Rattle.std.specs.Str.Lossy.{utf8_valid_len}
use Rattle.std.proofs.lemmas.Str.{utf8_valid_len-IsUtf8}
use Rattle.action_profile.specs.declared.kind.Kind.TheVariants.{Firewall, Monitor, Nat}
use Rattle.policy_text.specs.declared.clause.Clause.TheVariants.{Src, Dst, Src6, Sport, Dport, Proto, TagId, Version4, Version6, Flags}
use Rattle.policy_text.specs.declared.fault.TextFault.TheVariants.{Syntax, UnknownKind, DuplicateName, UnknownName, TooManyFunctions, TooManyChains, TooManyRules, BadVersionLine}
use Rattle.policy_text.specs.declared.policy.Statement.TheVariants.{Order, Priority, First, Last}
use Rattle.policy_text.specs.Addresses6.{address6_of, prefix6_of}
use Rattle.policy_text.specs.Bytes.{mac_of, pattern_of}
use Rattle.policy_text.specs.Clauses.{clauses_of}
use Rattle.policy_text.specs.Meeting.{is_within6}
use Rattle.policy_text.specs.Values.{is_name, number_of, address_of, prefix_of, range_of}
use Rattle.std.specs.List.{flat_map}
use Rattle.policy_text.specs.Grammar.{policy_of, policy_of_utf8, after_line}

-- every form of line
every_form : List ℕ
every_form = codes "# a policy\r\nnfp\t1\r\n\nchain main\nfn mon monitor # counts\r\nfn fw firewall\n set default allow\nrule deny src 10.0.0.9\norder mon before fw\npriority mon > fw\nposition mon first\nposition fw last\nchain fw match src 10.0.0.0/8 dport 1-1023 proto tcp tag 5 sport 7\nfn n nat"

every_form_is : policy_of_utf8 every_form ≡ Ok (record {
  chains =
      (record {
        name = codes "main";
        line = 4;
        fit = record { clauses = [] };
        functions =
            (record { name = codes "mon"; line = 5; kind = Monitor; settings = [] }) ∷
            (record {
              name = codes "fw";
              line = 6;
              kind = Firewall;
              settings =
                  (record { line = 7; words = codes "set" ∷ codes "default" ∷ codes "allow" ∷ [] }) ∷
                  (record { line = 8; words = codes "rule" ∷ codes "deny" ∷ codes "src" ∷ codes "10.0.0.9" ∷ [] }) ∷ [];
            }) ∷ [];
        statements = Order 0 1 9 ∷ Priority 0 1 10 ∷ First 0 11 ∷ Last 1 12 ∷ [];
      }) ∷
      (record {
        name = codes "fw";
        line = 13;
        fit = record { clauses = Src 167772160 8 ∷ Dport 1 1023 ∷ Proto 6 ∷ TagId 5 ∷ Sport 7 7 ∷ [] };
        functions = (record { name = codes "n"; line = 14; kind = Nat; settings = [] }) ∷ [];
        statements = [];
      }) ∷ [];
})
unfolding policy_of_utf8 after_line every_form
every_form_is = refl

empty_text : policy_of_utf8 [] ≡ Err BadVersionLine
unfolding policy_of_utf8
empty_text = refl

-- ASCII texts are read as UTF-8
read_ascii : (text : List ℕ) → all_scalars text ≡ true → encode_utf8_all text ≡ text → policy_of text ≡ policy_of_utf8 text
unfolding policy_of
read_ascii text scalars same =
    let whole : utf8_valid_len text ≡ length text = utf8_valid_len-IsUtf8 text (text, (scalars, same)) in
    let test : (utf8_valid_len text == length text) ≡ true = eq-eqb _ _ whole in
    rw test refl

other_version : policy_of_utf8 (codes "nfp 2\n") ≡ Err BadVersionLine
unfolding policy_of_utf8
other_version = refl

before_misspelled : policy_of_utf8 (codes "nfp 1\nchain c\nfn mon monitor\nfn fw firewall\norder mon after fw\n") ≡ Err (Syntax 5 11)
unfolding policy_of_utf8 after_line
before_misspelled = refl

position_missing : policy_of_utf8 (codes "nfp 1\nchain c\nfn mon monitor\nfn fw firewall\nposition mon\n") ≡ Err (Syntax 5 13)
unfolding policy_of_utf8 after_line
position_missing = refl

tag_again : policy_of_utf8 (codes "nfp 1\nchain x match tag none tag 5") ≡ Err (Syntax 2 24)
unfolding policy_of_utf8 after_line
tag_again = refl

unknown_kind : policy_of_utf8 (codes "nfp 1\nchain x\nfn f fire") ≡ Err (UnknownKind 3)
unfolding policy_of_utf8 after_line
unknown_kind = refl

duplicate_function : policy_of_utf8 (codes "nfp 1\nchain x\nfn f hop\nchain y\nfn f fire") ≡ Err (DuplicateName 5)
unfolding policy_of_utf8 after_line
duplicate_function = refl

unknown_name : policy_of_utf8 (codes "nfp 1\nchain x\nfn f hop\nchain y\nfn g hop\norder f before g") ≡ Err (UnknownName 6)
unfolding policy_of_utf8 after_line
unknown_name = refl

too_many_chains : policy_of_utf8 (codes "nfp 1\nchain a\nchain b\nchain c\nchain d\nchain e\nchain f\nchain g\nchain h\nchain i\nchain j\nchain k\nchain l\nchain m\nchain n\nchain o\nchain p\nchain q\n") ≡ Err (TooManyChains 18)
unfolding policy_of_utf8 after_line
too_many_chains = refl

too_many_functions : policy_of_utf8 (codes "nfp 1\nchain c\nfn a0 hop\nfn a1 hop\nfn a2 hop\nfn a3 hop\nfn a4 hop\nfn a5 hop\nfn a6 hop\nfn a7 hop\nfn a8 hop\nfn a9 hop\nfn aa hop\nfn ab hop\nfn ac hop\nfn b0 hop\nfn b1 hop\nfn b2 hop\nfn b3 hop\nfn b4 hop\nfn b5 hop\nfn b6 hop\nfn b7 hop\nfn b8 hop\nfn b9 hop\nfn ba hop\nfn bb hop\nfn bc hop\nfn c0 hop\nfn c1 hop\nfn c2 hop\nfn c3 hop\nfn c4 hop\nfn c5 hop\nfn c6 hop\nfn c7 hop\nfn c8 hop\nfn c9 hop\nfn ca hop\nfn cb hop\nfn cc hop\nfn d0 hop\nfn d1 hop\nfn d2 hop\nfn d3 hop\nfn d4 hop\nfn d5 hop\nfn d6 hop\nfn d7 hop\nfn d8 hop\nfn d9 hop\nfn da hop\nfn db hop\nfn dc hop\nfn e0 hop\nfn e1 hop\nfn e2 hop\nfn e3 hop\nfn e4 hop\nfn e5 hop\nfn e6 hop\nfn e7 hop\nfn e8 hop\nfn e9 hop\nfn ea hop\nfn eb hop\nfn ec hop\n") ≡ Err (TooManyFunctions 67)
unfolding policy_of_utf8 after_line
too_many_functions = refl

too_many_rules : policy_of_utf8 (codes "nfp 1\nchain c\nfn f hop\n" ++ flat_map (λ (n : ℕ). codes "rule x\n") (replicate 257 0)) ≡ Err (TooManyRules 260)
unfolding policy_of_utf8 after_line
too_many_rules = refl

name_of_32 : is_name (codes "a123456789012345678901234567890_") ≡ true
name_of_32 = refl

name_of_33 : is_name (codes "a123456789012345678901234567890_-") ≡ false
name_of_33 = refl

number_of_20_digits : number_of 20 18446744073709551615 (codes "00000000000000000009") ≡ Some 9
number_of_20_digits = refl

number_of_21_digits : number_of 20 18446744073709551615 (codes "000000000000000000009") ≡ None
number_of_21_digits = refl

part_of_four_digits : address_of (codes "10.0.0.0001") ≡ None
part_of_four_digits = refl

prefix_of_33_bits : prefix_of (codes "10.0.0.0/33") ≡ None
prefix_of_33_bits = refl

range_backwards : range_of (codes "2-1") ≡ None
range_backwards = refl

mac_is : mac_of (codes "02:00:00:aB:00:02") ≡ Some (2 ∷ 0 ∷ 0 ∷ 171 ∷ 0 ∷ 2 ∷ [])
mac_is = refl

hex_pattern : pattern_of (codes "hex") (codes "00fF") ≡ Some (0 ∷ 255 ∷ [])
hex_pattern = refl

odd_digits : pattern_of (codes "hex") (codes "00f") ≡ None
odd_digits = refl

empty_pattern : pattern_of (codes "hex") [] ≡ None
empty_pattern = refl

-- IPv6 addresses (RFC 4291, 2.2)
address6_with_gap : address6_of (codes "2001:db8::1") ≡ Some 0x2001_0db8_0000_0000_0000_0000_0000_0001
unfolding address6_of
address6_with_gap = refl

address6_of_zeros : address6_of (codes "::") ≡ Some 0
unfolding address6_of
address6_of_zeros = refl

address6_loopback : address6_of (codes "::1") ≡ Some 1
unfolding address6_of
address6_loopback = refl

address6_gap_behind : address6_of (codes "1::") ≡ Some 0x0001_0000_0000_0000_0000_0000_0000_0000
unfolding address6_of
address6_gap_behind = refl

address6_in_full : address6_of (codes "1:2:3:4:5:6:7:8") ≡ Some 0x0001_0002_0003_0004_0005_0006_0007_0008
unfolding address6_of
address6_in_full = refl

address6_two_groups : address6_of (codes "1::8") ≡ Some 0x0001_0000_0000_0000_0000_0000_0000_0008
unfolding address6_of
address6_two_groups = refl

address6_one_zero : address6_of (codes "1:2:3:4:5:6::8") ≡ Some 0x0001_0002_0003_0004_0005_0006_0000_0008
unfolding address6_of
address6_one_zero = refl

address6_either_case : address6_of (codes "FE80::aBcD") ≡ Some 0xfe80_0000_0000_0000_0000_0000_0000_abcd
unfolding address6_of
address6_either_case = refl

three_colons : address6_of (codes ":::") ≡ None
unfolding address6_of
three_colons = refl

two_gaps : address6_of (codes "1::2::3") ≡ None
unfolding address6_of
two_gaps = refl

nine_groups : address6_of (codes "1:2:3:4:5:6:7:8:9") ≡ None
unfolding address6_of
nine_groups = refl

eight_groups_and_a_gap : address6_of (codes "1:2:3:4:5:6:7::8") ≡ None
unfolding address6_of
eight_groups_and_a_gap = refl

gap_behind_eight : address6_of (codes "1:2:3:4:5:6:7:8::") ≡ None
unfolding address6_of
gap_behind_eight = refl

gap_before_eight : address6_of (codes "::1:2:3:4:5:6:7:8") ≡ None
unfolding address6_of
gap_before_eight = refl

seven_groups : address6_of (codes "1:2:3:4:5:6:7") ≡ None
unfolding address6_of
seven_groups = refl

five_digits : address6_of (codes "12345::") ≡ None
unfolding address6_of
five_digits = refl

no_digit : address6_of (codes "g::") ≡ None
unfolding address6_of
no_digit = refl

no_text : address6_of (codes "") ≡ None
unfolding address6_of
no_text = refl

colon_in_front : address6_of (codes ":1") ≡ None
unfolding address6_of
colon_in_front = refl

colon_behind : address6_of (codes "1:") ≡ None
unfolding address6_of
colon_behind = refl

bytes_in_dots : address6_of (codes "::10.0.0.1") ≡ None
unfolding address6_of
bytes_in_dots = refl

prefix6_of_32_bits : prefix6_of (codes "2001:db8::/32") ≡ Some (0x2001_0db8_0000_0000_0000_0000_0000_0000, 32)
unfolding address6_of
prefix6_of_32_bits = refl

prefix6_of_0_bits : prefix6_of (codes "::/0") ≡ Some (0, 0)
unfolding address6_of
prefix6_of_0_bits = refl

prefix6_of_128_bits : prefix6_of (codes "::/128") ≡ Some (0, 128)
unfolding address6_of
prefix6_of_128_bits = refl

prefix6_of_an_address : prefix6_of (codes "::1") ≡ Some (1, 128)
unfolding address6_of
prefix6_of_an_address = refl

prefix6_of_129_bits : prefix6_of (codes "::/129") ≡ None
unfolding address6_of
prefix6_of_129_bits = refl

prefix6_of_no_bits : prefix6_of (codes "::/") ≡ None
unfolding address6_of
prefix6_of_no_bits = refl

prefix6_of_four_digits : prefix6_of (codes "::/0001") ≡ None
unfolding address6_of
prefix6_of_four_digits = refl

prefix6_cut_twice : prefix6_of (codes "::/1/1") ≡ None
unfolding address6_of
prefix6_cut_twice = refl

within_32_bits : is_within6 0x2001_0db8_0000_0000_0000_0000_0000_0000 32 0x2001_0db8_0000_0000_0000_0000_0000_0001 ≡ true
within_32_bits = refl

beyond_32_bits : is_within6 0x2001_0db8_0000_0000_0000_0000_0000_0000 32 0x2001_0db9_0000_0000_0000_0000_0000_0000 ≡ false
beyond_32_bits = refl

-- a value determines the version of IP, and each leading word occurs once for both
clauses_of_both : clauses_of (codes "src" ∷ codes "2001:db8::/32" ∷ codes "dst" ∷ codes "10.0.0.0/8" ∷ []) ≡ Ok (Src6 0x2001_0db8_0000_0000_0000_0000_0000_0000 32 ∷ Dst 167772160 8 ∷ [])
unfolding address6_of
clauses_of_both = refl

source_twice : clauses_of (codes "src" ∷ codes "10.0.0.0/8" ∷ codes "src" ∷ codes "::1" ∷ []) ≡ Err 2
unfolding address6_of
source_twice = refl

destination_of_neither : clauses_of (codes "src" ∷ codes "::1" ∷ codes "dst" ∷ codes "1.2.3.4.5" ∷ []) ≡ Err 3
unfolding address6_of
destination_of_neither = refl

-- versions, and flags: 2 is the bit of SYN, 16 that of ACK; a word that leads a clause ends them
version_and_flags : clauses_of (codes "flags" ∷ codes "syn" ∷ codes "!ack" ∷ codes "version" ∷ codes "4" ∷ codes "tag" ∷ codes "5" ∷ []) ≡ Ok (Flags 18 2 ∷ Version4 ∷ TagId 5 ∷ [])
version_and_flags = refl

flags_at_the_end : clauses_of (codes "version" ∷ codes "6" ∷ codes "flags" ∷ codes "!urg" ∷ codes "fin" ∷ codes "rst" ∷ []) ≡ Ok (Version6 ∷ Flags 37 5 ∷ [])
flags_at_the_end = refl

no_flag : clauses_of (codes "flags" ∷ []) ≡ Err 1
no_flag = refl

clause_for_a_flag : clauses_of (codes "flags" ∷ codes "src" ∷ codes "10.0.0.9" ∷ []) ≡ Err 1
clause_for_a_flag = refl

flag_twice : clauses_of (codes "flags" ∷ codes "syn" ∷ codes "ack" ∷ codes "!syn" ∷ []) ≡ Err 3
flag_twice = refl

other_flag : clauses_of (codes "flags" ∷ codes "syn" ∷ codes "ece" ∷ []) ≡ Err 2
other_flag = refl

flags_twice : clauses_of (codes "flags" ∷ codes "syn" ∷ codes "flags" ∷ codes "ack" ∷ []) ≡ Err 2
flags_twice = refl

flag_of_no_flags : clauses_of (codes "version" ∷ codes "4" ∷ codes "syn" ∷ []) ≡ Err 2
flag_of_no_flags = refl

version_5 : clauses_of (codes "version" ∷ codes "5" ∷ []) ≡ Err 1
version_5 = refl

version_04 : clauses_of (codes "version" ∷ codes "04" ∷ []) ≡ Err 1
version_04 = refl
