mod Odd
