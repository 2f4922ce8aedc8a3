-- Whom a connection counts for.
use Rattle.std.specs.Prelude.{◌≡◌, [], ◌∷◌, ◌++◌, take}
use Rattle.std.specs.declared.net.ip_addr.IpAddr.{IpAddr}
use Rattle.std.specs.declared.net.ip_addr.IpAddr.TheVariants.{V4, V6}
use Rattle.std.specs.declared.net.ipv6_addr.Ipv6Addr.{Ipv6Addr}
use Rattle.std.specs.Net.Addr.{ipv4_octets, ipv6_segments, low_octets, MatchIp, IsIpv4Mapped}

-- the network of an IPv6 address: its first 64 bits; one host may choose the bits after them at will (RFC 4291, 2.5.4)
abbrev pub IsNetworkOf : (a network : Ipv6Addr) → Type 0
IsNetworkOf a network = ipv6_segments network ≡ take 4 (ipv6_segments a) ++ 0 ∷ 0 ∷ 0 ∷ 0 ∷ []

-- An IPv4 address counts for itself, also if it comes as an IPv6 one (RFC 4291, 2.5.5.2); another IPv6 address
-- counts for its network.
abbrev pub IsSourceOf : (address source : IpAddr) → Type 0
IsSourceOf (V4 a) source = source ≡ V4 a
IsSourceOf (V6 a) source =
    MatchIp source
    (λ ip. IsIpv4Mapped (ipv6_segments a) × (ipv4_octets ip ≡ low_octets a))
    (λ network. ¬ (IsIpv4Mapped (ipv6_segments a)) × IsNetworkOf a network)
