-- The definitions against the second implementation, over a block cipher that is quick to compute: thirteen messages, each
-- sealed and opened, of all forms and borders, and a string of the joined form that no message seals to. The rows are what
-- `reference toy` prints (tests/reference), which ./test compares.
-- Assumes nothing.
use mathlib.Core.Bool.{Bool, true, false, ◌&&◌}
use mathlib.Core.List.{List, [], ◌∷◌}
use Prim.Native.Nat.{ℕ, ◌+◌, ◌-◌, ◌*◌, ◌%◌}
use lib.Dec.{T}
use lib.ListN.{get_or, replicate}
use Rattle.octets.specs.Strings.{eqs, table}
use Rattle.octets.specs.Xor.{xors}
use Rattle.octets.specs.Numbers.{number, digits}
use Rattle.cba_mode.specs.Offsets
use Rattle.cba_mode.specs.Offsets.{doubled, times, F, start, offset, pad, leading, last_bytes, but_last}
use Rattle.cba_mode.specs.Data.{block_sum, with_rest, data_sum, L, data_hash, tag_of_data}
use Rattle.cba_mode.specs.Forms.{seal_form, open_form}
use Rattle.cba_mode.specs.Seal
use Rattle.cba_mode.specs.Seal.{checksum, cipher_blocks, R, masked, short_tag, joined_block, joined_last, joined_end, joined_tail, last_block, last_offset, separate_tag, separate_tail, seal_as, seal_with, ENC}
use Rattle.cba_mode.specs.Open.{Opened, is_false, verified, check, after, plain_blocks, from_blocks, joined_plain, joined_rest, joined_attempt, separate_attempt, attempt, open_with, DEC}
use Rattle.cba_mode.specs.Open.Opened.{opened, refused}

-- E moves byte 5 i + 3 to place i and maps it by 7 x + 13 i + 1; D is its inverse, 183 being 1/7 and 13 being 1/5
E : List ℕ → List ℕ
E x = table (λ i. (get_or x ((5 * i + 3) % 16) 0 * 7 + 13 * i + 1) % 256) 16

D : List ℕ → List ℕ
D y = table (λ j. let i = (13 * j + 9) % 16 in (get_or y i 0 + 4096 - (13 * i + 1)) * 183 % 256) 16

is : Opened → List ℕ → Bool
is (opened M) M' = eqs M M'
is refused M' = false

-- M seals to C, and C opens to M
vector : ℕ → ℕ → List ℕ → List ℕ → List ℕ → List ℕ → Bool
vector τ b N A M C = eqs (ENC E τ b N A M) C && is (DEC E D τ b N A C) M

all : List Bool → Bool
all [] = true
all (x ∷ l) = x && all l

rows : List Bool
rows =
    vector 64 16 (digits 12 0xc1675e0bb980a575a89661fe) ([]) ([]) (digits 8 0x08bf1b2897424fee)
    ∷ vector 64 16 (digits 12 0xc08aa83b63f1ee08469ccdac) (digits 3 0x9ff735) (digits 5 0xab278a84ba) (digits 13 0xb97660cae58e47afc8972e897c)
    ∷ vector 64 16 (digits 12 0x6d1c170cf5c1183c860763b2) (digits 16 0x81385e96737a74e5f8908fafafcc5252) (digits 8 0x147fbc5b62acf36b) (digits 16 0x1909fb6319090d12af253d05f9308e44)
    ∷ vector 64 16 (digits 12 0xa9bb618775730e4353be559d) (digits 17 0x39e1d7f209b1796e5c40a83ec24baef881) (digits 9 0x90f25101535b92250b) (digits 17 0xae84f1f3bb124e32f8167cad28f94dcf10)
    ∷ vector 64 16 (digits 12 0x6fd66c7b5a265ea217122fc4) (digits 33 0x02bb22de9f7070d39d4485f8ed96704095d6d213ecf2eab323158de4bd7f04969f) (digits 32 0xb1c6ec68964da9f424d040abcf5aa725f345b5f99cb64fe6db5b63dafc5b6da9) (digits 40 0x66b0b14a6ffe68f98fb379bbe1acf5c1b0c2f302c48cd2a32df0afdc8fc493e63c1a3139ffb03964)
    ∷ vector 64 16 (digits 12 0x5685e239d79940ee70a68238) (digits 5 0x9045859a5d) (digits 33 0x2ee0671df37f3be5c4d90be18dd86d24938db9111e91476b6bb561796f51c7aad0) (digits 41 0xc596414dd67bddb72534e22ac7b6129b1bb72b8d8e53292b8733725833dc8fd7f75315250e2fa643da)
    ∷ vector 32 16 (digits 12 0x1cc0ebbe180ade20c437e1c3) (digits 16 0xb3d46a1eac1ba177c5f62a53f97370de) (digits 25 0x08080967baf52a59453dc5aeb009555a81ecd7139260b27e78) (digits 29 0xfa66f48cff377ad916b555734ab981b998f73c7ed653664acbf7d0efd7)
    ∷ vector 32 32 (digits 12 0x5ceedecc0abc5c03d978c341) (digits 40 0x1fa9a80574b291404a274ffa7b2d3ff6f060741ae30d6ffbe71d14d622eaee401e6dea8986311219) (digits 48 0x0482e8d196bfe10f673299c63b888fa4e16549ee6566c7b60d1c1c613b682d356edf4beca6f81f05768ec3214d189a89) (digits 52 0x60ac33c86d6ee3b5c4be9de4ff898459933efc74f4c084f32316bdc5a9b4a6d5a860f113fb4ebdccaa600aab94c20ad5a4112b59)
    ∷ vector 64 48 (digits 12 0x4b2364e7d6c1a7d0d68123dc) (digits 20 0x39c7fa6bac0c381d5c98b621a58e38d3b41d906e) (digits 16 0xfd9e1ef3e11ed85c9be5785b9d6bcb07) (digits 24 0x4538abf8be35def2ee0e735fab95959bcbd6693c611b950e)
    ∷ vector 64 48 (digits 12 0x02b3b0dcd51d4b147fb9f008) ([]) (digits 1 0xcc) (digits 9 0x7d119c011ad49db9ca)
    ∷ vector 96 16 (digits 12 0x35b686692221e5b3157fe67b) (digits 1 0x72) (digits 56 0x68a7915fe896e96273c3d608d587cf6c699127ec8346fa47a3667035763dff2bcd21c5a0dac5e40cb093277320b2fdfe0e3084b3b39a6811) (digits 68 0x26d1ec8c128b776c4431d5b90f5fda1bb7e06b9045dbab1b869f4eecfcb72d71f1af1040b67e1c796eb4cd526b4fb5c4975fa874098ede397e97f4af3b4ac9989916d671)
    ∷ vector 96 48 (digits 12 0x3b97b084af58440a05acc942) (digits 31 0x99a311174b09a7a1b5f2c025046e77ea1a5782edecbad7365df6f929876f97) (digits 36 0x8d04409d5a1b6ad8541f4a65ef41cf170d32f615229f552e67ad7791272a9ffca3478004) (digits 48 0xf6fb5bd08d1b6266ca55724683fc6bc4d84315a3aaecf912864f353901f259d3ebf843fcca788276e55ff5b5ab0dc73d)
    ∷ vector 96 48 (digits 12 0x222502d125a6628804eb2adc) (digits 7 0x9451674e7b000a) (digits 37 0x99926378332d0d223facf180e93712740d6e1bddb6ed377fcf0eb836720503ec160f5736c8) (digits 49 0xc25a5dd7ad54b88316fe7606be27fd6fb752f49324975a7d78af970affba8448e40cf724ed77f0726bdbbe20ca5433ee17)
    ∷ []

test : T (is_false (DEC E D 96 48 (replicate 12 0) [] (replicate 29 0)) && all rows)
unfolding E D is is_false vector all rows xors number digits table doubled Offsets.two Offsets.three Offsets.four Offsets.five Offsets.six times F start offset pad leading last_bytes but_last block_sum with_rest data_sum L data_hash tag_of_data seal_form open_form checksum cipher_blocks R masked short_tag Seal.T joined_block joined_last joined_end joined_tail last_block last_offset separate_tag separate_tail seal_as seal_with verified check after plain_blocks from_blocks joined_plain joined_rest joined_attempt separate_attempt attempt open_with
test = tt
